use Rattle.session_laws.proofs.Answering.Drafts.{finds}
use Rattle.session_laws.proofs.answered.probes_are_answered.Goals as goal

pub returns : goal.returns
returns c = finds
