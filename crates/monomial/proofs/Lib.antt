-- The lemmas of the crate monomial that the crates above cite. Those of a module of src/ stand in the folder of its name.
pub mod Algebra
pub mod Orders
pub mod Padding
pub mod Loops
