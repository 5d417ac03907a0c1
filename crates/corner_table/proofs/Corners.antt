-- New lists, and lists that are marked, go back or are forgotten.
pub mod HistoryFacts
pub mod NewTables
pub mod SlotRanks
