-- The outcome of drawing up.
pub mod Outcomes
