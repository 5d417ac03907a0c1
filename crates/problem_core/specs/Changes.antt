-- Changes: where their paths begin, how they go on, and what stops them.
pub mod Stops
pub mod Paths
pub mod Begins
