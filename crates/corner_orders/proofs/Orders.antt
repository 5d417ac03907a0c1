-- Stays that are put before all others.
pub mod FrontedSlots
pub mod FrontedKept
pub mod FrontedLevels
pub mod FrontedColumns
pub mod FrontedConsistent
pub mod FrontedTables
