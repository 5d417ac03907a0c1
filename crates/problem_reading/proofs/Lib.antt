pub mod Parts
pub mod Numerals
pub mod Maybe
pub mod Rising
pub mod Problems
pub mod LineLists
pub mod Visible
