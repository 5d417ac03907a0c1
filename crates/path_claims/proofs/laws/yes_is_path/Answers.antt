use Rattle.path_claims.proofs.Verdicts.{yes_is_path}
use Rattle.path_claims.proofs.laws.yes_is_path.Goals as goal

pub returns : goal.returns
returns c = yes_is_path
