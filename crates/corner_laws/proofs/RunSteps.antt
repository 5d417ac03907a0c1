-- Primal and dual runs: which mark goes at each exchange, and why no corner comes twice.
pub mod Extended
pub mod FirstToLeave
pub mod RunCosts
pub mod ColumnSigns
pub mod RunPaths
pub mod DualRuns
