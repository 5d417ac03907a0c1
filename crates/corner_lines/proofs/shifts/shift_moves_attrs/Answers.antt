use Rattle.corner_lines.proofs.ProblemChanges.Shifted.{attr_still, shift-small, shift_line}
use Rattle.problem_core.specs.Corners.{attr_column}
use Rattle.corner_lines.proofs.shifts.shift_moves_attrs.Goals as goal

pub returns : goal.returns
returns c = λ p at id attr from to more whole s own by value num den e above ratio. shift_line p at id from to more (λ x. x (attr_column attr)) own by value num den whole s (attr_still id attr (shift-small p id from to more whole s)) e above ratio
