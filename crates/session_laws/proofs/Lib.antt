pub mod Answering
pub mod Posing
pub mod Showing
