-- The definitions of the crate forward. A reader of the call needs Outcome, over Form of course_text and TimeCourse of courses; Running has the
-- inner functions' answers.
pub mod Outcome
pub mod Running
