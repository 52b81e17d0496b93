-- The definitions of the crate monomial.
pub mod Monomial
pub mod Order
pub mod Comparison
pub mod Increasing
pub mod Rank
pub mod Candidate
pub mod Insert
pub mod Columns
pub mod Terms
