use Rattle.corner_laws.proofs.WrittenValues.{values_same}
use Rattle.corner_laws.proofs.writings.values_are_unique.Goals as goal

pub returns : goal.returns
returns c = values_same
