pub mod Tables
pub mod Histories
pub mod Kept
pub mod Invariants
pub mod Reads
pub mod Joining
pub mod Paths
pub mod Moves
