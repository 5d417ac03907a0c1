pub mod Fits
pub mod After
pub mod Sums
pub mod Attrs
pub mod TermSums
pub mod FirstLines
pub mod FirstSums
