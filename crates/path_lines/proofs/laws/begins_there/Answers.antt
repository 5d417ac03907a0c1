use Rattle.path_lines.proofs.Walking.FirstCorner.{begins_there}
use Rattle.path_lines.proofs.laws.begins_there.Goals as goal

pub returns : goal.returns
returns c = begins_there
