-- Drawing up from all points, over the definitions: what a combination of values says of a monomial, and the basis found up to a monomial.
pub mod Span
pub mod UpTo
