-- The definitions of the crate writing.
pub mod Decimal
pub mod Appending
pub mod Rows
