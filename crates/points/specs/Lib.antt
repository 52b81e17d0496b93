-- The definitions of the crate points.
pub mod Gathering
pub mod Leaving
