-- What a corner keeps where an attribute that no row names is taken out.
pub mod DroppedAttrLevels
pub mod DroppedAttrCandidates
pub mod DroppedAttrKept
pub mod DroppedAttrConsistent
