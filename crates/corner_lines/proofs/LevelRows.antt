-- Rows of levels: divided, exchanged, turned, and where rows join or leave.
pub mod LevelDivided
pub mod LevelExchanges
pub mod LevelJoins
pub mod LevelRests
pub mod LevelSound
pub mod StayRows
pub mod LevelOrders
pub mod LevelLeaves
pub mod Units
pub mod SameLevels
pub mod OtherNumbers
