-- Points with their counts (request M-106): entering, lowering, gathering, and what tables hold.
pub mod Entered
pub mod Parts
pub mod Gathered
pub mod Lowered
pub mod Held
pub mod Room
pub mod Once
pub mod Few
pub mod Saturated
