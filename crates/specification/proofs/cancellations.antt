-- The count of cancellations: the examination that it counts finds the basis, and what elimination over a table of pivot rows makes is what it counts.
pub mod Shown
pub mod Meetings
pub mod Pivots
pub mod Decisions
pub mod Due
pub mod Examined
pub mod Counted
pub mod Walk
pub mod Fronts
pub mod Tables
pub mod Turns
pub mod Progress
pub mod Under
pub mod Computed
