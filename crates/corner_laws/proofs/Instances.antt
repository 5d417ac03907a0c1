-- Small instances of the words, where they hold and where they do not.
pub mod Examples
pub mod PathExamples
pub mod BeginExamples
pub mod FreedExamples
pub mod Shown
pub mod StopExamples
pub mod ChoiceExamples
pub mod RunExamples
pub mod DualExamples
pub mod LevelFits
pub mod UnitExamples
pub mod RatioExamples
