-- Where a text is cut: into lines, words and tokens, and what is left of it.
pub mod Cutting
pub mod Lines
pub mod NextTokens
pub mod Slices
pub mod Words
