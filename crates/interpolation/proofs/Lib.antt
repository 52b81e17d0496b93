-- The lemmas of the crate interpolation.
pub mod Terms
pub mod TermValues
pub mod Interpolants
pub mod PairSearch
pub mod Chains
pub mod Differences
pub mod Turns
pub mod WordLaws
pub mod ParityLaws
pub mod MaskLaws
pub mod PointValues
