pub mod Names
pub mod Paths
pub mod Claims
pub mod CutPlaces
pub mod FormExamples
