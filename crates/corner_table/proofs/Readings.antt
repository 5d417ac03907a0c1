-- What is read of the lists: slots, marks, values and writings.
pub mod SlotFacts
pub mod MarkFacts
pub mod ReadFacts
pub mod WritingFacts
pub mod KeptFacts
pub mod MarkingFacts
pub mod MoveFacts
pub mod ListedFacts
