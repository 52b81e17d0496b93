-- Laws of working rows.
pub mod Kept
pub mod Zeros
