pub mod Basics
pub mod Attributes
pub mod Additions
pub mod Costs
