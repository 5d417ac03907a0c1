-- Opposites, sums with signs and rows as equations.
pub mod RowEquations
pub mod SumTurns
pub mod Opposites
