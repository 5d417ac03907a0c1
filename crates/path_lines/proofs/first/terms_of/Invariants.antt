use Rattle.path_lines.specs.Walking.FirstLines.{IsTermsSum}
use Rattle.path_lines.proofs.first.terms_of.Given as goal

abbrev pub invariant-loop-term : goal.invariant-loop-term
invariant-loop-term l = IsTermsSum l.p l.r l.term-index l.sum.by.items l.sum.value
