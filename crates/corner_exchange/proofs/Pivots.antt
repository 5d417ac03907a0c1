-- What an exchange makes of the rows and values of lines and levels.
pub mod PairFacts
pub mod LineChanges
pub mod PivotFacts
pub mod LineSlots
pub mod EnteringLines
pub mod TouchedFacts
pub mod LevelSwaps
pub mod LevelCosts
