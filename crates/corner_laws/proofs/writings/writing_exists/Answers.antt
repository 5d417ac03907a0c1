use Rattle.corner_laws.proofs.MarkWritings.LowestForms.{writing_exists}
use Rattle.corner_laws.proofs.writings.writing_exists.Goals as goal

pub returns : goal.returns
returns c = writing_exists
