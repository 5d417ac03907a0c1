use Rattle.corner_laws.proofs.PathEnds.Few.{path_few}
use Rattle.corner_laws.proofs.paths.paths_are_few.Goals as goal

pub returns : goal.returns
returns c = path_few
