-- Drawing up from all points by elimination over value columns: what it is handed, and its loop.
pub mod Positions
pub mod ReducedRows
pub mod Candidates
pub mod Matrix
pub mod FoundRows
pub mod ProductValues
pub mod TablesHold
pub mod Decisions
pub mod Hands
pub mod Grounds
pub mod Costs
pub mod KeptRows
pub mod LoopState
pub mod Loop
pub mod Given
