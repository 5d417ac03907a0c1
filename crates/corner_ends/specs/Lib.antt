pub mod Runs
pub mod Shares
pub mod Columns
pub mod Among
pub mod Begins
pub mod Trails
