use Rattle.corner_lines.proofs.Lines.LinePivots.{equation_is_pivot}
use Rattle.corner_lines.proofs.levels.equation_is_pivot.Goals as goal

pub returns : goal.returns
returns c = equation_is_pivot
