use Rattle.problem_core.specs.declared.parts.RowName.TheVariants.{Held}
use Rattle.corner_lines.specs.LineEquations.{deviation}
use Rattle.corner_lines.proofs.ProblemChanges.MovedStays.{held_unmoved, stood_line}
use Rattle.corner_lines.proofs.joins.stood_keeps_rows.Goals as goal

pub returns : goal.returns
returns c = λ p at stays id whole corner h own by num den e. stood_line p at stays (deviation (Held id)) own by num den whole corner h (held_unmoved p id) e
