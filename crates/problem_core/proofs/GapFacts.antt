-- What the sign of a gap rests on: values that are looked up, multiples of their denominators, and sizes.
pub mod Lookups
pub mod Multiples
pub mod Amounts
pub mod GapSigns
