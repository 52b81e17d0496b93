-- The lines of a basis, and how long they are.
pub mod TableLines
pub mod LongestPrint
