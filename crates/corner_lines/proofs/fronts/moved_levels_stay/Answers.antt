use Rattle.corner_lines.proofs.FrontsStay.{moved_levels_stay}
use Rattle.corner_lines.proofs.fronts.moved_levels_stay.Goals as goal

pub returns : goal.returns
returns c = moved_levels_stay
