use Rattle.path_lines.proofs.Exchanges.SolvedPivots.{solved_is_pivot}
use Rattle.path_lines.proofs.laws.solved_is_pivot.Goals as goal

pub returns : goal.returns
returns c = solved_is_pivot
