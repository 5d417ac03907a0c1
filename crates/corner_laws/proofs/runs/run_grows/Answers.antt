use Rattle.corner_laws.proofs.RunSteps.RunPaths.{run_grows}
use Rattle.corner_laws.proofs.runs.run_grows.Goals as goal

pub returns : goal.returns
returns c = run_grows
