-- Numbers of lines: their lowest terms, and the signs of values.
pub mod LowestTerms
pub mod Moves
pub mod NumbersOf
pub mod Unfits
pub mod ValueSigns
pub mod AddedNumbers
