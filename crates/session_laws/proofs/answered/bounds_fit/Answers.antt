use Rattle.session_laws.proofs.Answering.BoundsFit.{bounds-fit}
use Rattle.session_laws.proofs.answered.bounds_fit.Goals as goal

pub returns : goal.returns
returns c = bounds-fit
