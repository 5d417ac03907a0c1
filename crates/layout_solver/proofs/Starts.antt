-- Where a run begins: stays that have moved, attributes that come, rows that join.
pub mod Beginnings
pub mod FirstRows
pub mod FirstStays
pub mod Moved
pub mod MovedProblems
pub mod Rooms
