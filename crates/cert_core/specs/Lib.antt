pub mod Claims
pub mod Fields
pub mod Paths
pub mod Stops
