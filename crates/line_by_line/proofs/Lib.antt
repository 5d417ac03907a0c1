pub mod Talks
pub mod Counted
pub mod Stops
pub mod Ways
pub mod Others
pub mod Instances
