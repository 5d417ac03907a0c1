-- What marks and required rows cost, and how a corner is judged by it.
pub mod FirstSigns
pub mod OwnColumns
pub mod PlacedRows
pub mod LineCosts
pub mod LevelEnds
pub mod AfterCosts
