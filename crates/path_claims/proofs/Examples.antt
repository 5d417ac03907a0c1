-- Small cases of the words of a path.
pub mod WayExamples
pub mod Instances
