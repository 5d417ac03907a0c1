use Rattle.certificates.proofs.Accepted.{accepted}
use Rattle.certificates.proofs.laws.certified_is_accepted.Goals as goal

pub returns : goal.returns
returns c = accepted
