pub mod NamedLines
pub mod SceneLemmas
pub mod MarkedTexts
pub mod Told
pub mod Apart
pub mod Alone
