use Rattle.layout_cli.proofs.BestRuns.{run-AreBest}
use Rattle.layout_cli.proofs.laws.runs_lead_to_best_values.Goals as goal

pub returns : goal.returns
returns c = run-AreBest
