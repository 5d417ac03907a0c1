-- The checker's route by the kept lines: its first corner, and exchange by exchange.
pub mod FirstLines
