use Rattle.corner_laws.proofs.PathEnds.BeginsUnique.{begins_unique}
use Rattle.corner_laws.proofs.changes.begins_unique.Goals as goal

pub returns : goal.returns
returns c = begins_unique
