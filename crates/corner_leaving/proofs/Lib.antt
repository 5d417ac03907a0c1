pub mod Attributes
pub mod Removals
