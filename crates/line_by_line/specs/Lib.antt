pub mod Answers
pub mod Talks
pub mod Ends
pub mod Constants
