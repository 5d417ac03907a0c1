pub mod Attributes
pub mod Items
pub mod Kept
pub mod Leaving
pub mod Moving
pub mod Constants
