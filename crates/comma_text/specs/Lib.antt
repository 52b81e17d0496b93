-- The definitions of the crate comma_text.
pub mod reading
