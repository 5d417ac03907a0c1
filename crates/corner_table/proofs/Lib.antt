pub mod Corners
pub mod Readings
pub mod Basics
