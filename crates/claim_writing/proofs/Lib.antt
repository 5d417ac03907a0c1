pub mod Texts
pub mod LevelTexts
