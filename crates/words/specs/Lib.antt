-- Columns, pivots and sets of monomials in words (request M-108): what the functions of this crate are handed and what they leave.
pub mod Packed
pub mod PivotTables
pub mod PlaceSets
pub mod ByteColumns
pub mod Sequences
