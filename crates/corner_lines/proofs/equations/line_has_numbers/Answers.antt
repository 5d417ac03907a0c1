use Rattle.corner_lines.proofs.Lines.LineWritings.{mark_coefficients}
use Rattle.corner_lines.proofs.equations.line_has_numbers.Goals as goal

pub returns : goal.returns
returns c = λ p by whole side. mark_coefficients p by side whole
