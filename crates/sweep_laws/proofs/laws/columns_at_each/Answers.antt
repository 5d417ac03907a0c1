use Rattle.sweep_laws.proofs.SeenAlike.{columns_at_each}
use Rattle.sweep_laws.proofs.laws.columns_at_each.Goals as goal

pub returns : goal.returns
returns c = columns_at_each
