-- Laws of columns.
pub mod Entries
