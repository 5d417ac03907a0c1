-- Sums of terms over a common scale, as whole numbers by attribute.
pub mod Beginnings
pub mod Divisors
pub mod Doubles
pub mod Found
pub mod Joint
pub mod Quotients
pub mod Wholes
