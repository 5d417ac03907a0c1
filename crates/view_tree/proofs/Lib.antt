pub mod BranchLemmas
pub mod DropLemmas
pub mod JsonExamples
pub mod JsonLemmas
pub mod NodeLemmas
pub mod PlanLemmas
pub mod ViewLemmas
