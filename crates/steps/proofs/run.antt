-- Lemmas for the run of the model.
pub mod RunLaws
