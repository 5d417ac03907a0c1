use Rattle.sweep_laws.proofs.Costs.{costs_beyond}
use Rattle.sweep_laws.proofs.laws.costs_beyond.Goals as goal

pub returns : goal.returns
returns c = costs_beyond
