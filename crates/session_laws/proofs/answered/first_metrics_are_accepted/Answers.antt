use Rattle.session_laws.proofs.Answering.FirstSession.{first-metrics}
use Rattle.session_laws.proofs.answered.first_metrics_are_accepted.Goals as goal

pub returns : goal.returns
returns c = first-metrics
