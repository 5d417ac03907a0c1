-- Multipliers of levels, and the writings of what levels cost: units, numbers, and what has to fit.
pub mod ExchangedLevels
pub mod Gaps
pub mod Unique
pub mod LevelExists
pub mod Equal
pub mod LevelLifts
pub mod LevelNumbers
pub mod LevelUnits
pub mod LevelSizes
pub mod LevelSmall
pub mod StayLevels
