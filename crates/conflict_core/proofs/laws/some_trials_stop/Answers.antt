use Rattle.conflict_core.proofs.CoreExamples.{some_trials_stop}
use Rattle.conflict_core.proofs.laws.some_trials_stop.Goals as goal

pub returns : goal.returns
returns c = some_trials_stop
