-- Leaving a variable out.
pub mod Outcome
