-- The calls that answer from recognised tables: their refusals and their answers.
pub mod Refusals
pub mod Answered
