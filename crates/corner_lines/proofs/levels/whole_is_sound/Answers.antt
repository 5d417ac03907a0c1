use Rattle.corner_lines.proofs.LevelRows.LevelSound.{whole_is_sound}
use Rattle.corner_lines.proofs.levels.whole_is_sound.Goals as goal

pub returns : goal.returns
returns c = whole_is_sound
