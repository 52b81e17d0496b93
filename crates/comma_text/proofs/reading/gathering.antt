-- The distinct points of a text, with their counts and first values.
pub mod Places
pub mod EntriesGathered
pub mod AllGathered
