-- Laws of columns, pivots and sets of monomials in words.
pub mod ColumnLaws
pub mod LoseLaws
pub mod ClearLaws
pub mod Orthogonal
pub mod ExamineLaws
pub mod SetBits
pub mod LeftLaws
pub mod RowsKnownMore
pub mod PlaceLaws
pub mod MultipleLaws
pub mod WritingLaws
pub mod VariableLaws
pub mod EightLaws
pub mod NotedLaws
