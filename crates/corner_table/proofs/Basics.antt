-- Lists, sums of whole numbers, names and equations.
pub mod SmallFacts
pub mod ListFacts
pub mod MarkLists
pub mod WholeSums
pub mod OwnerFacts
pub mod SameEquations
pub mod RowPlaces
pub mod StayCosts
