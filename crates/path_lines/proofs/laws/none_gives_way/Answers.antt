use Rattle.path_lines.proofs.Walking.Bringing.{none_gives_way}
use Rattle.path_lines.proofs.laws.none_gives_way.Goals as goal

pub returns : goal.returns
returns c = none_gives_way
