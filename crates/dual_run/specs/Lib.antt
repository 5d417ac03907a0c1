pub mod Leaving
pub mod Entering
pub mod FoundLows
pub mod Turning
