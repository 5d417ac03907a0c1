-- Small cases of the words of a path.
pub mod SideExamples
