-- What is shown, the check of a claim accepts.
pub mod Written
pub mod Judged
pub mod Accepted
pub mod PathsWritten
pub mod PathsAccepted
pub mod UnfitInstance
pub mod Instances
pub mod Steps
pub mod CoresAccepted
