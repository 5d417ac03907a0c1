use Rattle.corner_lines.proofs.ProblemChanges.JoinedLines.{gives_deviation}
use Rattle.corner_lines.proofs.ProblemChanges.JoinedRows.{den-positive}
use Rattle.corner_lines.proofs.joins.terms_give_deviation.Goals as goal

pub returns : goal.returns
returns c = λ p at r whole own by value num den e above ratio. gives_deviation p at r own by value num den (den-positive p r whole) e above ratio
