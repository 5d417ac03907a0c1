pub mod Stood
pub mod Shifting
pub mod Astray
