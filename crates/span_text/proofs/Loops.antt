-- Constructs that come again behind themselves, and their readers.
pub mod BoundedLoops
pub mod LoopLemmas
pub mod OnceLemmas
