-- The definitions of the crate json_sheets.
pub mod Sheets
pub mod Calls
pub mod Examples
