pub mod Marks
pub mod Lines
pub mod Hosts
pub mod Laws
pub mod Constants
