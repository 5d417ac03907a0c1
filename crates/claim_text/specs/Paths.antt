-- Which lines are paths, with lines inside and outside the form.
pub mod PathForms
pub mod PathExamples
