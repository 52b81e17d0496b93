-- Recognising lent tables, and what recognised ones hold.
pub mod Counts
pub mod Tests
pub mod Recognised
