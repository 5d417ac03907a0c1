-- What levels cost by their rows, and when it fits.
pub mod LevelCosts
pub mod LevelPlaces
pub mod LevelFits
pub mod LevelJoinCosts
pub mod StayFits
pub mod LevelTakes
pub mod CostSigns
