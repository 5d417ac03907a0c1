use Rattle.corner_lines.proofs.LevelExamples.{single_is_unfit}
use Rattle.corner_lines.proofs.levels.single_is_unfit.Goals as goal

pub returns : goal.returns
returns c = single_is_unfit
