use Rattle.layout_cli.proofs.Made.{counted-run}
use Rattle.layout_cli.proofs.laws.counted_runs_are_runs.Goals as goal

pub returns : goal.returns
returns c = counted-run
