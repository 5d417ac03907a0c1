use Rattle.corner_laws.proofs.RunSteps.DualRuns.{dual_run_is_path}
use Rattle.corner_laws.proofs.runs.dual_run_is_path.Goals as goal

pub returns : goal.returns
returns c = dual_run_is_path
