use Rattle.corner_laws.proofs.PathEnds.Refuting.{cost_refutes}
use Rattle.corner_laws.proofs.paths.cost_refutes.Goals as goal

pub returns : goal.returns
returns c = cost_refutes
