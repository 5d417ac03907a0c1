use Rattle.corner_lines.proofs.Lines.LineUnfits.{mark_has_none}
use Rattle.corner_lines.proofs.equations.mark_unfit_from_deviation.Goals as goal

pub returns : goal.returns
returns c = mark_has_none
