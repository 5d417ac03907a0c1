use Rattle.corner_laws.proofs.PathEnds.Ends.{end_is_best}
use Rattle.corner_laws.proofs.paths.end_is_best.Goals as goal

pub returns : goal.returns
returns c = end_is_best
