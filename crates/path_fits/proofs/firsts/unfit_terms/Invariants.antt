use Rattle.std.proofs.Common.{◌≡◌, ◌+◌}
use Rattle.path_fits.specs.FirstSums.{DoFitBefore, IsTermsValue}
use Rattle.path_fits.proofs.firsts.unfit_terms.Given as goal

abbrev pub invariant-loop-term : goal.invariant-loop-term
invariant-loop-term l = record {
  value : IsTermsValue l.p l.r l.term-index l.value;
  first : l.first ≡ l.term-index + 1;
  fit : DoFitBefore l.p l.r (l.term-index + 1);
}
