-- Laws of the search for the next monomial.
pub mod Turns
pub mod Products
pub mod Counts
pub mod Exponents
