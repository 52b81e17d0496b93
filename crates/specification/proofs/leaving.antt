-- M-110: leaving a variable out.
pub mod Repeated
pub mod Without
pub mod Calls
pub mod Sets
pub mod Multisets
pub mod Desks
pub mod Added
pub mod AsDrawn
pub mod Weights
pub mod Twice
