use Rattle.corner_lines.proofs.LevelExamples.{sum_is_unfit}
use Rattle.corner_lines.proofs.levels.sum_is_unfit.Goals as goal

pub returns : goal.returns
returns c = sum_is_unfit
