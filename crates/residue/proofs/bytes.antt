-- Laws of lent bytes: copies, equality, and the number that they spell.
pub mod Copies
pub mod Equality
pub mod Keys
pub mod AllZero
