use Rattle.corner_laws.proofs.RunSteps.DualRuns.{dual_run_grows}
use Rattle.corner_laws.proofs.runs.dual_run_grows.Goals as goal

pub returns : goal.returns
returns c = dual_run_grows
