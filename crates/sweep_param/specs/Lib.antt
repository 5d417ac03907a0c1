pub mod Sweeps
pub mod Joining
pub mod Laws
