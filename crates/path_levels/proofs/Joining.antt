-- A line that joins the row of its level.
pub mod Fitting
pub mod LineLists
pub mod LineJoins
pub mod JoinRows
pub mod JoinCosts
pub mod Drafts
pub mod FittingRows
pub mod JoinShares
