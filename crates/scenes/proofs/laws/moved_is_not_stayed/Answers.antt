use Rattle.scenes.proofs.MovedFrames.{came_moved, left_moved, moved_apart, stayed_itself}
use Rattle.scenes.proofs.laws.moved_is_not_stayed.Goals as goal

pub returns-clause-apart : goal.returns-clause-apart
returns-clause-apart c = moved_apart

pub returns-clause-same : goal.returns-clause-same
returns-clause-same c = stayed_itself

pub returns-clause-came : goal.returns-clause-came
returns-clause-came c = came_moved

pub returns-clause-left : goal.returns-clause-left
returns-clause-left c = left_moved
