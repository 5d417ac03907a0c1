use Rattle.session_laws.proofs.Answering.Lines.{others-accepted}
use Rattle.session_laws.proofs.answered.others_are_accepted.Goals as goal

pub returns : goal.returns
returns c = others-accepted
