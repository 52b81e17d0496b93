-- Adding a point to the tables: the laws of its functions, and that the tables they leave are those of the points with the new one.
pub mod KeptRows
pub mod Searches
pub mod Writes
pub mod Growth
pub mod Insertion
pub mod Corrections
pub mod LostRow
pub mod Negatives
pub mod NewRows
pub mod NewTables
pub mod Added
