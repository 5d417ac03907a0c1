-- What levels cost and count, which are in use, and what of them fits, as the lists have it.
pub mod LevelTerms
pub mod LevelCounts
pub mod LevelWords
