-- Sides, numbers and lists.
pub mod SmallFacts
