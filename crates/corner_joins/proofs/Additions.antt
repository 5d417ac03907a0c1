-- Rows that join a corner: their lines, slots and places, before and after they join their levels.
pub mod PartFacts
pub mod RowPlaces
pub mod RowTerms
pub mod RowPlaced
pub mod SlotsLeft
pub mod RowKept
pub mod RowLevels
pub mod RowJoins
pub mod RowPaths
pub mod RowStops
pub mod AddedRows
pub mod SumFits
pub mod RowFits
pub mod AllFit
