-- What holds of time courses, as records that have been read.
pub mod Moves
pub mod Records
pub mod Model
pub mod Runs
pub mod Forward
pub mod Answer
