use Rattle.corner_laws.proofs.RunFalls.{run_falls}
use Rattle.corner_laws.proofs.runs.run_falls.Goals as goal

pub returns : goal.returns
returns c = run_falls
