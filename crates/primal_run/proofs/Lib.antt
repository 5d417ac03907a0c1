pub mod FirstLevel
pub mod Counts
pub mod Leaves
pub mod RunFacts
pub mod Deciders
pub mod TieKeys
