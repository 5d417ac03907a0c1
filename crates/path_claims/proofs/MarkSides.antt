-- The marks of a corner by their lines, and corners that are different.
pub mod TakenMarks
pub mod Pigeons
