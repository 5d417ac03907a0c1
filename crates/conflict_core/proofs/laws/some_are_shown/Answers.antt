use Rattle.conflict_core.proofs.CoreExamples.{some_are_shown}
use Rattle.conflict_core.proofs.laws.some_are_shown.Goals as goal

pub returns : goal.returns
returns c = some_are_shown
