-- The lemmas of the crate residue that the crates above cite. Those of a module of src/ stand in the folder of its name.
pub mod Tests
pub mod Searches
pub mod Congruence
pub mod Sums
pub mod Layouts
pub mod Places
pub mod Replaced
pub mod BitLaws
pub mod Words
pub mod Chunks
