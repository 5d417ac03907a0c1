pub mod Totals
pub mod NoParts
pub mod Insertion
pub mod Shifts
pub mod Constants
