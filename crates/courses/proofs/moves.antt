-- Moves as the code gathers them.
pub mod MovesBefore
pub mod FirstMoves
pub mod Successors
pub mod HeldRecords
pub mod OtherRecords
pub mod CoursePlaces
pub mod MovesGathered
pub mod MovesAnswers
pub mod RecordTurns
pub mod SmallRecords
