use Rattle.sweep_laws.proofs.BendSweeps.{straight_is_wrong}
use Rattle.sweep_laws.proofs.laws.straight_is_wrong.Goals as goal

pub returns : goal.returns
returns c = straight_is_wrong
