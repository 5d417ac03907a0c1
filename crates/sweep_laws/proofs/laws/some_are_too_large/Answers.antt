use Rattle.sweep_laws.proofs.Large.{some_are_too_large}
use Rattle.sweep_laws.proofs.laws.some_are_too_large.Goals as goal

pub returns : goal.returns
returns c = some_are_too_large
