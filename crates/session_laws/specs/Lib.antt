pub mod Answered
pub mod Posed
pub mod Shown
