pub mod Asked
pub mod FormatCauses
pub mod Numbered
pub mod Parents
