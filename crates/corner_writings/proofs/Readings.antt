-- What is read of the lists: entries, low lines and what moves with a mark.
pub mod FreeSlots
pub mod MoverFacts
pub mod MovedFacts
pub mod EntryFacts
pub mod LowLines
