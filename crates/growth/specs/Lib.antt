-- The definitions of the crate growth.
pub mod Growing
