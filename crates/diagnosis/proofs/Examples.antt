-- Small problems in which attributes move, rows lack something, and probes answer.
pub mod AmbiguityExamples
pub mod UnmetExamples
pub mod CostExamples
pub mod ProbeExamples
