pub mod Words
pub mod Stops
pub mod RowParts
pub mod FirstBad
pub mod Problems
pub mod Sets
pub mod ProblemForms
pub mod Constants
