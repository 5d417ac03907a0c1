-- The level of a stay, which has one line.
pub mod TurnedValues
pub mod StaySizes
pub mod StayPlaces
pub mod StayRows
pub mod StayLevels
