-- The monomial orders, each law for all of them by one argument.
pub mod Answers
pub mod Compared
pub mod Lawful
pub mod Weights
pub mod Keys
pub mod Descent
pub mod Growth
pub mod Increasing
