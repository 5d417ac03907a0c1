use Rattle.session_laws.proofs.Showing.CoresAccepted.{cores-accepted, trial-stops}
use Rattle.session_laws.proofs.shown.cores_are_accepted.Goals as goal

pub returns-clause-cores : goal.returns-clause-cores
returns-clause-cores c = cores-accepted

pub returns-clause-stops : goal.returns-clause-stops
returns-clause-stops c = trial-stops
