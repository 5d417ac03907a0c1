use Rattle.layout_solver.proofs.Removals.Instances.{some_cannot_leave}
use Rattle.layout_solver.proofs.laws.some_cannot_leave.Goals as goal

pub returns : goal.returns
returns c = some_cannot_leave
