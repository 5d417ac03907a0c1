-- A row or an attribute joins or is taken out, stays move, or a constant changes: the corner and its equations.
pub mod JoinedRows
pub mod JoinedLines
pub mod NewStays
pub mod MovedStays
pub mod JoinedUnder
pub mod Shifted
pub mod ShiftedCorner
pub mod Dropped
pub mod DroppedAttr
pub mod LeftWholes
pub mod LeftUnfits
pub mod JoinedBegins
