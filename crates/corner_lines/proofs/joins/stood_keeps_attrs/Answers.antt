use Rattle.corner_lines.proofs.ProblemChanges.MovedStays.{attr_unmoved, stood_line}
use Rattle.problem_core.specs.Corners.{attr_column}
use Rattle.corner_lines.proofs.joins.stood_keeps_attrs.Goals as goal

pub returns : goal.returns
returns c = λ p at stays attr whole corner h own by num den e. stood_line p at stays (λ x. x (attr_column attr)) own by num den whole corner h (attr_unmoved p attr whole) e
