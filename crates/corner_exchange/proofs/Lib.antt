pub mod Basics
pub mod Pivots
pub mod LevelFacts
pub mod Swaps
