use Rattle.std.proofs.Common.{List, length, take}
use Rattle.frac_core.specs.Fraction.{IsKept}
use Rattle.problem_core.specs.declared.parts.Mark.{Mark}
use Rattle.path_lines.specs.Exchanges.Pivots.{next_marks}
use Rattle.path_lines.specs.Tables.{AreLines, IsSized}
use Rattle.path_fits.specs.Sums.{IsQuantitySum}
use Rattle.path_fits.specs.TermSums.{terms_of}
use Rattle.path_levels.specs.Exchanges.Pivots.{IsExchangePivot}
use Rattle.path_fits.proofs.last.terms.terms_after.Given as goal

abbrev pub invariant-loop-at : goal.invariant-loop-at
invariant-loop-at l = record {
  sized : IsSized (length l.case.lines.now) l.sum;
  kept : IsKept l.sum.value;
  sum : (marks : List Mark) → IsExchangePivot l.case.p.now marks l.case.pivot.now → AreLines l.case.p.now marks l.case.lines.now → IsQuantitySum l.case.p.now (next_marks l.case.p.now l.case.pivot.now marks) (terms_of (take l.at l.terms)) l.sum;
}
