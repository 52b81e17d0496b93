-- Reading a sheet.
pub mod Takes
