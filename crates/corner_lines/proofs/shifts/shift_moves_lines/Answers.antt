use Rattle.corner_lines.specs.LineEquations.{deviation}
use Rattle.corner_lines.proofs.ProblemChanges.Shifted.{deviation_still, shift_line}
use Rattle.corner_lines.proofs.shifts.shift_moves_lines.Goals as goal

pub returns : goal.returns
returns c = λ p at id name from to more whole s ne own by value num den e above ratio. shift_line p at id from to more (deviation name) own by value num den whole s (deviation_still id name ne) e above ratio
