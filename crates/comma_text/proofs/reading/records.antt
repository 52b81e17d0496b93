-- The header and the entries, field by field.
pub mod EntryLevels
pub mod EntriesChecked
pub mod HeaderFields
pub mod Numbers
pub mod ScannedLevels
