-- How attributes and rows join the lists of a corner, and rows the costs of their levels.
pub mod Parts
pub mod RowJoins
pub mod RowSums
pub mod CostJoins
pub mod JoinedLists
pub mod SumFits
