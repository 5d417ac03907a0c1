-- What levels cost and count, which are in use, and what of them fits, as the lists have it.
pub mod LevelNumberFacts
pub mod LevelRowFacts
pub mod FirstNumbers
pub mod LevelReadFacts
pub mod LevelWrittenFacts
pub mod LevelCostFacts
pub mod LevelFrontFacts
pub mod ColumnFronts
pub mod LevelUseFacts
pub mod LowestFronts
pub mod UsedLevels
pub mod FittingRows
pub mod FittingLoops
pub mod GrowingFacts
