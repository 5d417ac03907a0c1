use Rattle.problem_core.proofs.Corners.Ends.{end-IsCertificate}
use Rattle.problem_core.proofs.laws.end_has_certificate.Goals as goal

pub returns : goal.returns
returns c = end-IsCertificate
