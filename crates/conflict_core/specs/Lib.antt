pub mod Cores
pub mod Shown
pub mod Trials
pub mod Searches
pub mod Yielding
pub mod Asking
pub mod Laws
pub mod Instances
