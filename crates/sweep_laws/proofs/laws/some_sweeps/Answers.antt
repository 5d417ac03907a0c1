use Rattle.sweep_laws.proofs.BendSweeps.{some_sweeps}
use Rattle.sweep_laws.proofs.laws.some_sweeps.Goals as goal

pub returns : goal.returns
returns c = some_sweeps
