-- Numbers, the weight of a line and histories of tables.
pub mod SmallFacts
