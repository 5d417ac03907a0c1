-- What a corner keeps where an attribute joins.
pub mod AttrColumns
pub mod CornerAttrs
