pub mod Told
pub mod Ways
pub mod Values
pub mod Slides
