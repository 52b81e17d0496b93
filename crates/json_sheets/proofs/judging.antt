-- What refuses a sheet.
pub mod Judged
