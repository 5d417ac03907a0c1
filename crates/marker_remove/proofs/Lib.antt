pub mod StayMoves
pub mod ZeroSwaps
pub mod FreedPaths
pub mod Crossing
pub mod Instances
pub mod Beginnings
