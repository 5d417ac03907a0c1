use Rattle.corner_lines.proofs.Lines.LineExchanges.{resolved}
use Rattle.corner_lines.proofs.equations.pivot_is_resolved.Goals as goal

pub returns : goal.returns
returns c = resolved
