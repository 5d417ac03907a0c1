pub mod Corners
pub mod Swaps
pub mod Attributes
pub mod Additions
pub mod Safety
pub mod LowMarks
pub mod KnownJoins
