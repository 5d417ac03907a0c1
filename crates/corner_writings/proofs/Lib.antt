pub mod Basics
pub mod Readings
pub mod LevelFacts
