use Rattle.session_laws.proofs.Showing.Accepted.{conflicts-accepted}
use Rattle.session_laws.proofs.shown.conflicts_are_accepted.Goals as goal

pub returns : goal.returns
returns c = conflicts-accepted
