-- The weights of the settings.
pub mod Weights
