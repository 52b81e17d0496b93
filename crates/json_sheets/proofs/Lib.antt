-- The theorems of the crate json_sheets.
pub mod Weights
pub mod TableBack
pub mod SheetDocuments
pub mod SheetBytes
pub mod SheetFormed
pub mod TextLength
pub mod DocumentBack
pub mod Passed
pub mod SizedTables
pub mod ReadBack
pub mod ReadOnly
pub mod Examples
pub mod Archives
pub mod Numbers
pub mod TextNames
