-- The definitions of the crate json_text. What has to be believed of them is Writing, Documents and how Tables hold them: Reading is pinned by its theorems, Places
-- says it again by places in a text, and Parts by the parts that the code reads.
pub mod Writing
pub mod Documents
pub mod Reading
pub mod Places
pub mod Said
pub mod Parts
pub mod Tables
pub mod Examples
