-- Writing a sheet.
pub mod Writes
