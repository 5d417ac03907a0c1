use Rattle.cert_checker.proofs.Givens.{some-Gives}
use Rattle.cert_checker.proofs.laws.values_are_given.Goals as goal

pub returns : goal.returns
returns c = some-Gives
