-- The definitions of the crate course_text. A reader of the call needs Form; Grammar says the form and computes nothing; Reading has the inner
-- functions' answers.
pub mod Form
pub mod Grammar
pub mod Reading
