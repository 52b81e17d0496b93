-- The definitions of the crate notation. A reader of `read_text` needs Digits, Fields and Forms, or
-- Grammar and FormGrammar, which say the same and compute nothing; the others are the inner functions' answers.
pub mod Digits
pub mod Fields
pub mod Forms
pub mod Words
pub mod Grammar
pub mod FormGrammar
pub mod Spans
pub mod Said
