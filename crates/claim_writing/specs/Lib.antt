pub mod Words
pub mod Lines
pub mod Texts
pub mod Names
pub mod PathTexts
pub mod ClaimLines
