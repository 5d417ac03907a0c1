-- What the lists keep after an exchange of two lines, or a turn of one.
pub mod PutFacts
pub mod NextFacts
pub mod ExchangedFacts
pub mod ExchangedMarks
pub mod ExchangedLevels
pub mod ExchangedKept
pub mod ListedFacts
pub mod TurnedFacts
pub mod SwapSides
pub mod LevelTurns
pub mod TurnedChanges
pub mod ColumnReturns
pub mod ListedSlots
