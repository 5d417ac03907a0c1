pub mod Entering
pub mod Leaving
pub mod Deciding
