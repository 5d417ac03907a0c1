use Rattle.sweep_laws.proofs.Bounded.{some_bounded}
use Rattle.sweep_laws.proofs.laws.some_bounded.Goals as goal

pub returns : goal.returns
returns c = some_bounded
