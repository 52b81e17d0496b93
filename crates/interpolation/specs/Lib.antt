-- The definitions of the crate interpolation.
pub mod Solving
pub mod Pairs
pub mod Parity
