-- What the lists keep where an attribute joins.
pub mod AttrRows
pub mod AttrJoins
pub mod AttrLevels
