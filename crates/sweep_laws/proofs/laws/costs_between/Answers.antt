use Rattle.sweep_laws.proofs.Costs.{costs_between}
use Rattle.sweep_laws.proofs.laws.costs_between.Goals as goal

pub returns : goal.returns
returns c = costs_between
