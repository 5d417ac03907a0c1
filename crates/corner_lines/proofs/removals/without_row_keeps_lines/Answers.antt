use Rattle.corner_lines.specs.LineEquations.{deviation}
use Rattle.corner_lines.proofs.ProblemChanges.Dropped.{deviation_without, left_line}
use Rattle.corner_lines.proofs.removals.without_row_keeps_lines.Goals as goal

pub returns : goal.returns
returns c = λ p at id name side whole corner inside ne own by num den e none. left_line p at id side (deviation name) own by num den whole corner inside (deviation_without id name ne) e none
