use Rattle.corner_lines.proofs.LevelRows.StayRows.{stay_stands_alone}
use Rattle.corner_lines.proofs.levels.stay_stands_alone.Goals as goal

pub returns : goal.returns
returns c = stay_stands_alone
