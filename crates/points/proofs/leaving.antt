-- Points without one of their coordinates.
pub mod Raised
pub mod Entries
