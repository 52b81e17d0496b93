-- Bytes as monomials without squares, their steps, and the tables of an order by weight.
pub mod ByteLaws
pub mod ByteInstance
pub mod SequenceLaws
pub mod ByteSteps
pub mod Sorting
pub mod DoublingLaws
pub mod WeighingLaws
pub mod WeighingTurns
pub mod GatherLaws
pub mod InsertionLaws
pub mod SquaresUnder
