-- The definitions of the crate steps.
pub mod Stepping
