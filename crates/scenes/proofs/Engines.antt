-- What a scene hands its engine, and what the engine's answers come to.
pub mod Additions
pub mod Moves
pub mod Reached
pub mod Posed
pub mod Requests
pub mod Wholes
