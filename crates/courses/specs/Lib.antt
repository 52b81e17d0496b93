-- The definitions of the crate courses. A reader of the call needs TimeCourse, and Returns, which says the run and computes nothing.
pub mod TimeCourse
pub mod Returns
pub mod Records
pub mod Moves
