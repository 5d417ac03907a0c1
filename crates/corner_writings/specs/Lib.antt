pub mod Walks
pub mod Entries
pub mod Lows
pub mod Growing
pub mod Rows
pub mod Fitting
