-- Certificates: their values, placed levels and fronts, and their clauses.
pub mod Valuing
pub mod Levels
pub mod Columns
pub mod FrontLoops
pub mod Unseen
pub mod Wholes
pub mod Certified
