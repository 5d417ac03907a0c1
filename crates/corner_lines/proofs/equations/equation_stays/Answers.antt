use Rattle.corner_lines.proofs.Lines.LineExchanges.{line_stays}
use Rattle.corner_lines.proofs.equations.equation_stays.Goals as goal

pub returns : goal.returns
returns c = line_stays
