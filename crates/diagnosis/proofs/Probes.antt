-- The probe row: that it makes a problem, what it costs, why it stops, and what it says.
pub mod ProbeCosts
pub mod ProbeWhole
pub mod Probed
pub mod ProbeStops
