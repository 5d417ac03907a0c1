-- The lines of paths: their words, and lines inside and outside the form.
pub mod PathWords
pub mod PathExamples
