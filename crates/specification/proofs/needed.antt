-- Needed variables: the two wordings, the list, and what it has to do with interpolants.
pub mod Decided
pub mod Coordinates
pub mod Wordings
pub mod Pairs
pub mod Filled
pub mod Arranged
pub mod Occurring
pub mod Calls
