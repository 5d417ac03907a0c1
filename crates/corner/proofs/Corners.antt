-- A corner, and a new one.
pub mod CornerFacts
pub mod NewCorners
pub mod MovedCorners
