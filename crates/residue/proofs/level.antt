-- Laws of moduli and of levels.
pub mod Moduli
pub mod Levels
