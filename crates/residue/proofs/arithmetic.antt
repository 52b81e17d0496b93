-- Laws of sums, products and powers.
pub mod Reduction
pub mod Powers
pub mod Doubling
