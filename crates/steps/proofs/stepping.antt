-- Lemmas for the step of the model.
pub mod StepLaws
