-- The points of the entries, level by level.
pub mod LevelResidues
pub mod OneMore
pub mod EntryFilled
pub mod EntriesRead
pub mod EntriesInside
