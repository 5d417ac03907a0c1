-- The marks of a corner by their lines, and corners that are different.
pub mod SidesApart
pub mod Walks
