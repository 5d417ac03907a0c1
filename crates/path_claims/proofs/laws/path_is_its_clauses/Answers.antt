use Rattle.path_claims.proofs.Verdicts.{path_is_its_clauses}
use Rattle.path_claims.proofs.laws.path_is_its_clauses.Goals as goal

pub returns : goal.returns
returns c = path_is_its_clauses
