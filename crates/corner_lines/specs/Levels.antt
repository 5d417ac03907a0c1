-- Levels at a corner: their rows, their costs, and when they fit.
pub mod LevelRows
pub mod LevelJoins
pub mod LevelCosts
pub mod LevelFits
pub mod StayLevels
pub mod LevelExamples
