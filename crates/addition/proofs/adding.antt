-- Adding a point: its refusals and its outcome.
pub mod Addition
