-- Where a text is cut: into lines, words, names and tokens.
pub mod Ascii
pub mod Cuts
pub mod Fronts
pub mod TokenCuts
pub mod WordCuts
