use Rattle.path_claims.proofs.Examples.Instances.{some_paths_hold}
use Rattle.path_claims.proofs.laws.some_paths_hold.Goals as goal

pub returns : goal.returns
returns c = some_paths_hold
