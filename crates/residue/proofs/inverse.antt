-- Laws of inverses.
pub mod Inverses
