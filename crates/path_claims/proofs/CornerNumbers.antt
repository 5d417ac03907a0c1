-- The numbers of corners.
pub mod Trees
pub mod Corners
pub mod Told
