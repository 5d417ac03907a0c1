-- Levels that have their first lines alone, line by line.
pub mod Weighed
pub mod PartLines
pub mod PartJoins
pub mod EmptyParts
pub mod RowsLoop
pub mod WithLine
