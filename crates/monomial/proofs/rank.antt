-- Laws of ranks.
pub mod Ranks
pub mod Steps
