use Rattle.path_lines.proofs.Walking.Bringing.{one_mark_of_line}
use Rattle.path_lines.proofs.laws.one_mark_of_line.Goals as goal

pub returns : goal.returns
returns c = one_mark_of_line
