use Rattle.session_laws.proofs.Answering.Sweeps.{sweeps-answered}
use Rattle.session_laws.proofs.answered.sweeps_are_answered.Goals as goal

pub returns : goal.returns
returns c = sweeps-answered c.sweeps_are_answered.ensures
