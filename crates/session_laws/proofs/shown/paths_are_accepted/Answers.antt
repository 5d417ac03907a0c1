use Rattle.session_laws.proofs.Showing.PathsAccepted.{spent-accepted, unfit-accepted}
use Rattle.session_laws.proofs.shown.paths_are_accepted.Goals as goal

pub returns : goal.returns
returns c = record { unfit = unfit-accepted; spent = spent-accepted }
