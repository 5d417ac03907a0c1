-- Which lines and texts are claims, and the state of a reader of them.
pub mod ClaimTexts
pub mod Seen
pub mod ClaimForms
