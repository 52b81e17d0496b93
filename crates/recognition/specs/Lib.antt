-- The definitions of the crate recognition.
pub mod Looking
pub mod Naming
