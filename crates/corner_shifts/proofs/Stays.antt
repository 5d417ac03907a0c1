-- What a corner keeps where the stays move to the attributes' values.
pub mod StoodLists
pub mod StoodLevels
pub mod StoodKept
pub mod StoodTables
pub mod ListedStays
