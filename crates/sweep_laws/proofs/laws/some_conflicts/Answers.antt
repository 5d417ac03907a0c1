use Rattle.sweep_laws.proofs.Narrow.{some_conflicts}
use Rattle.sweep_laws.proofs.laws.some_conflicts.Goals as goal

pub returns : goal.returns
returns c = some_conflicts
