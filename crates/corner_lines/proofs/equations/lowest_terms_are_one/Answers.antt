use Rattle.corner_lines.proofs.Lines.LineTerms.{only_terms}
use Rattle.corner_lines.proofs.equations.lowest_terms_are_one.Goals as goal

pub returns : goal.returns
returns c = only_terms
