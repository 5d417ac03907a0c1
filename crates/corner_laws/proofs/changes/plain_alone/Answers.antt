use Rattle.corner_laws.proofs.PathEnds.Complete.{plain_alone}
use Rattle.corner_laws.proofs.changes.plain_alone.Goals as goal

pub returns : goal.returns
returns c = plain_alone
