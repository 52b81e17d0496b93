-- The definitions of the crate printing.
pub mod Lines
pub mod Text
pub mod Examples
