-- Which exchanges can be made, and the lines and sums after one.
pub mod CarriedSums
pub mod CarriedLevels
pub mod EnteringLine
pub mod Exchanging
pub mod SolvedPivots
pub mod NextLines
pub mod Turning
pub mod Leading
pub mod PlainSums
