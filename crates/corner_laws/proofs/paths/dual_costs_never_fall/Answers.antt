use Rattle.corner_laws.proofs.PathEnds.Rises.{dual_never_falls}
use Rattle.corner_laws.proofs.paths.dual_costs_never_fall.Goals as goal

pub returns : goal.returns
returns c = dual_never_falls
