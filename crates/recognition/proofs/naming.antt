-- A named point: what is at hand where nothing refuses the call that names it.
pub mod PointAtHand
