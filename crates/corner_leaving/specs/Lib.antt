pub mod Leaving
pub mod Dropping
