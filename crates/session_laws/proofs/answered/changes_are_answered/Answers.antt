use Rattle.session_laws.proofs.Answering.Lines.{changes-answered}
use Rattle.session_laws.proofs.answered.changes_are_answered.Goals as goal

pub returns : goal.returns
returns c = changes-answered
