use Rattle.corner_lines.proofs.ProblemChanges.Dropped.{attr_without, left_line}
use Rattle.problem_core.specs.Corners.{attr_column}
use Rattle.corner_lines.proofs.removals.without_row_keeps_attrs.Goals as goal

pub returns : goal.returns
returns c = λ p at id attr side whole corner inside own by num den e none. left_line p at id side (λ x. x (attr_column attr)) own by num den whole corner inside (attr_without id attr) e none
