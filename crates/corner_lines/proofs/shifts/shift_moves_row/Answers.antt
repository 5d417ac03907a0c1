use Rattle.corner_lines.proofs.ProblemChanges.Shifted.{shift_own}
use Rattle.corner_lines.proofs.shifts.shift_moves_row.Goals as goal

pub returns : goal.returns
returns c = λ p at id from to more whole s own by value num den e none above ratio. shift_own p at id from to more own by value num den whole s e none above ratio
