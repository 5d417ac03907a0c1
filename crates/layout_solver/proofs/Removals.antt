-- Rows and attributes that leave: the way, its stops, and the corner that is left.
pub mod LeftMarks
pub mod LeftPaths
pub mod LeftRows
pub mod LeftStops
pub mod LeftEnds
pub mod LeftAttrs
pub mod LeftChanges
pub mod PlainStops
pub mod Instances
