-- What an exchange does to the equations and sums of lines.
pub mod Carried
pub mod CarriedLevels
pub mod Pivots
