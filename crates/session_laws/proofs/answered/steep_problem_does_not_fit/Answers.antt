use Rattle.session_laws.proofs.Answering.SteepUnfit.{steep-unfit}
use Rattle.session_laws.proofs.answered.steep_problem_does_not_fit.Goals as goal

pub returns : goal.returns
returns c = steep-unfit
