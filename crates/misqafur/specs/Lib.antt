-- The definitions of the crate misqafur.
pub mod Packing
pub mod Version
pub mod Unpacking
pub mod Bytes
pub mod Reached
