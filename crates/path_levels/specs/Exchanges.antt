-- An exchange: its pivot, and the rows and costs of levels after it.
pub mod Carried
pub mod Pivots
pub mod FitsAfter
pub mod Moved
pub mod WideCosts
