use Rattle.sweep_laws.proofs.Covering.{sweep_covers}
use Rattle.sweep_laws.proofs.laws.sweep_covers.Goals as goal

pub returns : goal.returns
returns c = sweep_covers
