-- The corner where a route begins: what fits there, in which order, and the verdict there.
pub mod FirstSums
