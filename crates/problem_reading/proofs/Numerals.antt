-- The words of numbers: digits, and fractions in lowest terms.
pub mod Digits
pub mod Lowest
