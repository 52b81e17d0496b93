-- Levels, and tables of points.
pub mod LevelLists
pub mod PointTables
