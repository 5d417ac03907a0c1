use Rattle.session_laws.proofs.Answering.Questions.{questions-answered}
use Rattle.session_laws.proofs.answered.questions_are_answered.Goals as goal

pub returns : goal.returns
returns c = questions-answered
