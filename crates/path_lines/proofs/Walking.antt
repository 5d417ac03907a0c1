-- The checker's route: where it begins, the way to a path's first corner, and along its swaps.
pub mod Bringing
pub mod FirstCorner
pub mod FirstLines
pub mod PlacedSwaps
