-- Rows whose constants change, and the problem that they make.
pub mod Constants
pub mod ConstantReads
pub mod ShiftedProblems
pub mod Alterations
