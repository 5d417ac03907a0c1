use Rattle.corner_laws.proofs.PathEnds.Rises.{dual_rises}
use Rattle.corner_laws.proofs.paths.dual_costs_rise.Goals as goal

pub returns : goal.returns
returns c = dual_rises
