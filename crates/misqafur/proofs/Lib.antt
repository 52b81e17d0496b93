-- The lemmas of the crate misqafur.
pub mod Packed
pub mod Handed
pub mod Unpacked
pub mod ReadBack
pub mod CourseBack
pub mod JsonBack
pub mod AllRecords
pub mod Bytes
pub mod Reached
