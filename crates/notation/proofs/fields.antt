-- Fields: where they end, and that the definitions have turns enough.
pub mod Searches
pub mod FieldEnds
pub mod FieldSpans
pub mod EnoughTurns
