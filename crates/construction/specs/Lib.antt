-- The definitions of the crate construction.
pub mod Drawing
