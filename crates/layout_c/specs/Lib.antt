pub mod Calls
pub mod Held
pub mod Runs
pub mod Status
