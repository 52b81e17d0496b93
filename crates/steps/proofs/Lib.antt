-- The proofs of the crate steps.
pub mod InBytes
