pub mod Paths
pub mod Claims
pub mod Cut
pub mod CutLines
pub mod FormExamples
