use Rattle.corner_lines.proofs.ProblemChanges.JoinedBegins.{begins_more}
use Rattle.corner_lines.proofs.joins.path_begins_with_more.Goals as goal

pub returns : goal.returns
returns c = λ p kept at joined r whole corner h m num den value above by. begins_more p kept at joined r m num den whole corner h value above by
