use Rattle.corner_laws.proofs.PathEnds.Complete.{stops_anywhere}
use Rattle.corner_laws.proofs.changes.stops_are_conflicts.Goals as goal

pub returns : goal.returns
returns c = stops_anywhere
