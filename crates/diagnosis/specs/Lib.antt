pub mod Ambiguity
pub mod Costs
pub mod Diagnoses
pub mod Examples
pub mod Probes
pub mod Unmet
