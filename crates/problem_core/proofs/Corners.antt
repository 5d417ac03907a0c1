-- Tableaus and corners: exchanges, columns, and what an end shows.
pub mod Columns
pub mod Tableaus
pub mod Exchanges
pub mod Swaps
pub mod Conflicts
pub mod CornerFacts
pub mod Ends
pub mod Falling
