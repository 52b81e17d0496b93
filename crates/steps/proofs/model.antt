-- Lemmas for the model of a time course.
pub mod ModelLaws
