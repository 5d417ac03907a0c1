pub mod Combinations
pub mod Renames
pub mod Rows
pub mod Walks
