-- Laws of vectors, and of loops that write one.
pub mod Vectors
pub mod Filled
