-- Laws of the values of terms.
pub mod Values
pub mod TermRows
