-- What is shown, the check of a claim accepts.
pub mod Shown
pub mod Steps
pub mod Cores
