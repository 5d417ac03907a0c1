use Rattle.session_laws.proofs.Showing.Accepted.{certificates-accepted}
use Rattle.session_laws.proofs.shown.certificates_are_accepted.Goals as goal

pub returns : goal.returns
returns c = certificates-accepted
