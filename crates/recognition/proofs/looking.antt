-- The look at lent tables: its number, what it leaves, and what a call stands on that it does not refuse.
pub mod Variables
pub mod Looks
