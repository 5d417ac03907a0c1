use Rattle.corner_lines.proofs.Lines.LineUnfits.{mark_unfit}
use Rattle.corner_lines.proofs.equations.mark_unfit_from_line.Goals as goal

pub returns : goal.returns
returns c = λ p at name side whole corner rays inside own by num den is unfit. mark_unfit p at name side own by num den whole corner rays inside is unfit
