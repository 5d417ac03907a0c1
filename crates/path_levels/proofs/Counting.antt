-- What a line counts in a level's row, and its size.
pub mod ShareFacts
pub mod LineShares
pub mod CostSizes
