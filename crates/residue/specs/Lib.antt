-- The definitions of the crate residue.
pub mod Lists
pub mod Layout
pub mod Congruence
pub mod Modulus
pub mod Level
pub mod Inverse
pub mod Vector
pub mod Sizes
pub mod Words
