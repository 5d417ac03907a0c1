pub mod Facts
pub mod Seen
