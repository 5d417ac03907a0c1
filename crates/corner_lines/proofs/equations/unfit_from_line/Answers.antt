use Rattle.corner_lines.proofs.Lines.LineUnfits.{line_unfit}
use Rattle.corner_lines.proofs.equations.unfit_from_line.Goals as goal

pub returns : goal.returns
returns c = λ p at quantity whole corner rays own by num den is unfit. line_unfit p at quantity own by num den whole corner rays is unfit
