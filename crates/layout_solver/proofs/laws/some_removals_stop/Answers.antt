use Rattle.layout_solver.proofs.Removals.Instances.{some_removals_stop}
use Rattle.layout_solver.proofs.laws.some_removals_stop.Goals as goal

pub returns : goal.returns
returns c = some_removals_stop
