use Rattle.corner_lines.proofs.LevelExamples.{single_has_front}
use Rattle.corner_lines.proofs.fronts.single_has_front.Goals as goal

pub returns : goal.returns
returns c = single_has_front
