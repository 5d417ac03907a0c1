use Rattle.corner_laws.proofs.RunSteps.DualRuns.{other_mark_grows}
use Rattle.corner_laws.proofs.runs.other_mark_grows.Goals as goal

pub returns : goal.returns
returns c = other_mark_grows
