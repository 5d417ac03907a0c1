-- Which assignments are best, and what stays best.
pub mod Duality
pub mod Midpoints
pub mod Targets
pub mod Agreed
pub mod WindowRows
pub mod Additions
pub mod Settled
