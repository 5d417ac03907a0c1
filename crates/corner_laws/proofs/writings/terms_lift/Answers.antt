use Rattle.corner_laws.proofs.MarkWritings.TermLifts.{terms_lift}
use Rattle.corner_laws.proofs.writings.terms_lift.Goals as goal

pub returns : goal.returns
returns c = terms_lift
