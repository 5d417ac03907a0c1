use Rattle.corner_lines.proofs.Lines.LineWritings.{inside_coefficients, other_coefficient}
use Rattle.corner_lines.proofs.equations.mark_has_numbers.Goals as goal

pub returns : goal.returns
returns c = λ p at name side whole corner inside own by num den e. (other_coefficient p at name side own by num den whole corner inside e, λ to. inside_coefficients p side name own by to whole)
