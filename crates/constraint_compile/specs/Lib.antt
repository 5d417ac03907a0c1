pub mod Compiled
pub mod Inside
pub mod Naming
pub mod Coefficients
pub mod Stops
pub mod Suggestions
pub mod Constants
