-- What an exchange of two lines, or a turn of one, makes of the lists.
pub mod Exchanges
pub mod Touched
pub mod NextLists
pub mod TurnedLevels
pub mod LevelChanges
