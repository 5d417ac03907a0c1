use Rattle.sweep_laws.proofs.EachCorner.{corner_at_each}
use Rattle.sweep_laws.proofs.laws.corner_at_each.Goals as goal

pub returns : goal.returns
returns c = corner_at_each
