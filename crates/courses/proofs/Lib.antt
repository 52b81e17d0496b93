-- The proofs of the crate courses.
pub mod theory
pub mod Examples
