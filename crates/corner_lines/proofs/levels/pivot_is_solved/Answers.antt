use Rattle.corner_lines.proofs.Lines.LinePivots.{pivot_is_solved}
use Rattle.corner_lines.proofs.levels.pivot_is_solved.Goals as goal

pub returns : goal.returns
returns c = pivot_is_solved
