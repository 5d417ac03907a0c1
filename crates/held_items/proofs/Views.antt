-- Views that are there and views that come: their attributes and their rows.
pub mod Attributes
pub mod ViewRows
