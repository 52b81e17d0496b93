-- Running a time course forward.
pub mod Decisions
pub mod Interpolants
pub mod Recorded
pub mod RunCases
pub mod Accepted
pub mod WholeCourse
