use Rattle.corner_lines.proofs.Lines.LineUnfits.{reduced_line}
use Rattle.corner_lines.proofs.equations.sum_is_reducible.Goals as goal

pub returns : goal.returns
returns c = reduced_line
