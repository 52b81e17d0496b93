-- The records of a time course's text: their form, and their states and numbers in tables.
pub mod Marks
pub mod CoursesChecked
pub mod FewRecords
pub mod RecordsRead
pub mod Returning
