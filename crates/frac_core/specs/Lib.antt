pub mod Fraction
pub mod Stops
pub mod Sums
pub mod Text
