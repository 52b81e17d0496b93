-- Points gathered with their counts.
pub mod EnteredBytes
pub mod Hints
pub mod Gathering
