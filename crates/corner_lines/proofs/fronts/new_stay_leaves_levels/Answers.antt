use Rattle.corner_lines.proofs.FrontsStay.{new_stay_leaves_levels}
use Rattle.corner_lines.proofs.fronts.new_stay_leaves_levels.Goals as goal

pub returns : goal.returns
returns c = new_stay_leaves_levels
