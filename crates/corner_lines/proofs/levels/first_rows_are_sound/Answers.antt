use Rattle.corner_lines.proofs.LevelRows.LevelSound.{first_rows_are_sound}
use Rattle.corner_lines.proofs.levels.first_rows_are_sound.Goals as goal

pub returns : goal.returns
returns c = first_rows_are_sound
