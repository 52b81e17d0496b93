-- Laws of elimination: one row met, the multiples of a row, and what a row that met all pivot rows says.
pub mod Multiples
pub mod Eliminated
pub mod Combinations
pub mod PivotRows
pub mod NextPivot
