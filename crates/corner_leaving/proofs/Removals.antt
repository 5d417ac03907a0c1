-- What a corner keeps where a row leaves the cost of its level and is taken out.
pub mod LeftLists
pub mod DroppedLevels
pub mod DroppedKept
pub mod DroppedLists
pub mod DroppedCandidates
pub mod DroppedConsistent
pub mod DroppedTables
pub mod LeftLevels
pub mod LeavingRows
pub mod LeavingFits
pub mod LeavingCosts
pub mod LeavingUnits
pub mod LeavingEnds
