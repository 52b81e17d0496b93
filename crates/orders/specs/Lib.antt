-- The tables of an order by weight (requests M-108 and M-109).
pub mod Weighing
