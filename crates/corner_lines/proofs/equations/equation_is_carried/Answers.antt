use Rattle.corner_lines.proofs.Lines.LineCarried.{carried}
use Rattle.corner_lines.proofs.equations.equation_is_carried.Goals as goal

pub returns : goal.returns
returns c = carried
