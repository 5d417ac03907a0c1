-- What is read of the lists: the numbers of levels, and what is listed.
pub mod Listing
pub mod LevelNumbers
