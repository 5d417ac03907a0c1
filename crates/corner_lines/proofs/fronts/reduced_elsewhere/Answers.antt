use Rattle.corner_lines.proofs.FrontSigns.{reduced_elsewhere}
use Rattle.corner_lines.proofs.fronts.reduced_elsewhere.Goals as goal

pub returns : goal.returns
returns c = reduced_elsewhere
