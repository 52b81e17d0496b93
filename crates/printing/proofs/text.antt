-- What is printed of a text.
pub mod DrawnTables
pub mod PointsPrinted
pub mod AcceptedText
pub mod ExamplesPrinted
