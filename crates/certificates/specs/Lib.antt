pub mod Accepted
pub mod Errors
pub mod OwnLevels
pub mod Reading
