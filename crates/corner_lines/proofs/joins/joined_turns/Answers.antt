use Rattle.corner_lines.proofs.ProblemChanges.JoinedLines.{joined_turns}
use Rattle.corner_lines.proofs.joins.joined_turns.Goals as goal

pub returns : goal.returns
returns c = joined_turns
