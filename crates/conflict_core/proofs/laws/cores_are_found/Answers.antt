use Rattle.conflict_core.proofs.CoreStops.{cores_are_found}
use Rattle.conflict_core.proofs.laws.cores_are_found.Goals as goal

pub returns : goal.returns
returns c = cores_are_found
