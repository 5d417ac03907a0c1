use Rattle.corner_lines.proofs.ProblemChanges.JoinedBegins.{begins_none}
use Rattle.corner_lines.proofs.joins.path_begins_with_none.Goals as goal

pub returns : goal.returns
returns c = begins_none
