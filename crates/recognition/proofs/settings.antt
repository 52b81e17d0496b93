-- The number of a call, and its outcome by the number.
pub mod BySize
pub mod ByNumber
pub mod Written
