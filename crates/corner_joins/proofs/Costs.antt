-- How a row that has joined the corner joins the cost of its level.
pub mod CostUnits
pub mod CostRows
pub mod CostLines
pub mod CostJoins
pub mod CostTerms
pub mod CostSteps
pub mod CostFound
pub mod CostValues
pub mod CostFits
pub mod CostKept
pub mod CostEnds
pub mod CostLoops
pub mod CostSums
