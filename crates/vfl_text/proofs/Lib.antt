pub mod ChainSteps
pub mod FormatLemmas
pub mod FormatReads
pub mod FormatTexts
pub mod NumberTexts
pub mod OnceLemmas
pub mod PredSteps
pub mod WritableTexts
