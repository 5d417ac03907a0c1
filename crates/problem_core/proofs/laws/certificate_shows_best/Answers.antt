use Rattle.problem_core.proofs.Best.Duality.{certificate-IsBest}
use Rattle.problem_core.proofs.laws.certificate_shows_best.Goals as goal

pub returns : goal.returns
returns c = certificate-IsBest
