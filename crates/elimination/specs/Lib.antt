-- The definitions of the crate elimination.
pub mod Elimination
pub mod Rows
