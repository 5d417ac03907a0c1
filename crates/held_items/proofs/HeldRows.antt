-- The rows of what is held: their numbers, their ranks, and the views whose attributes they have.
pub mod FormTerms
pub mod FormatOwners
pub mod IntrinsicRows
pub mod ItemRows
pub mod NextLines
pub mod NextRows
pub mod Owners
pub mod Ranks
pub mod RequiredRows
pub mod SmallLines
