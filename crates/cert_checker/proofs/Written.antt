-- The written multipliers: by name, with the places of their lines, and sums over them.
pub mod Weighing
pub mod Swapping
pub mod Naming
