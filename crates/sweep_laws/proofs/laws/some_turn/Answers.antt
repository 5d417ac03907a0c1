use Rattle.sweep_laws.proofs.Turning.{some_turn}
use Rattle.sweep_laws.proofs.laws.some_turn.Goals as goal

pub returns : goal.returns
returns c = some_turn
