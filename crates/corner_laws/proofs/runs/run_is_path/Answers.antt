use Rattle.corner_laws.proofs.RunSteps.RunPaths.{run_is_path}
use Rattle.corner_laws.proofs.runs.run_is_path.Goals as goal

pub returns : goal.returns
returns c = run_is_path
