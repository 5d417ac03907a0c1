use Rattle.std.proofs.Common.{◌+◌, ◌*ℤ◌, ◌+ℤ◌, ◌≤◌, ◌^◌, ℕ, ℤ, pos, List, length, get_or, take, subst, SFits, arith}
use Rattle.std.specs.Prelude.{unsigned_abs}
use Rattle.std.specs.Int.{w64}
use Rattle.std.proofs.lemmas.Int.{fits_signed_from_abs, to_z-of_z}
use Rattle.std.proofs.lemmas.List.{take_all}
use Rattle.std.proofs.lemmas.Result.{err_from_is_err_and}
use Rattle.problem_core.specs.declared.parts.Term.{Term}
use Rattle.problem_core.specs.Window.{zero_fraction}
use Rattle.problem_core.specs.Corners.{attr_column}
use Rattle.path_lines.specs.Exchanges.Pivots.{next_marks}
use Rattle.path_lines.specs.Tables.{IsSized}
use Rattle.path_fits.specs.Sums.{IsQuantitySum}
use Rattle.path_fits.specs.TermSums.{IsTermMore, terms_of}
use Rattle.path_fits.proofs.LastCorner.QuantitiesAfter.{unit_sized}
use Rattle.path_fits.proofs.LastCorner.TermsAfter.{attr_stops, more_stops, no_terms_yet, same_quantity, terms_more}
use Rattle.path_fits.proofs.last.terms.terms_after.Goals as goal
use Rattle.path_levels.proofs.Exchanges.FitFacts.{next_is_there as corner_after}

abbrev none : Term
none = record { attr = 0; by = pos 0 }

small : (z : ℤ) → unsigned_abs z ≤ 2 ^ 30 → SFits w64 z
small z less = fits_signed_from_abs w64 z (omega (arith, less))

pub loop-at-init : goal.loop-at-init
loop-at-init c = record {
  sized = unit_sized (length c.args.case.lines.now) (length c.args.case.lines.now) zero_fraction c.in_ok-sum.sum c.in_ok-sum.ensures.unit;
  kept = c.in_ok-sum.ensures.kept;
  sum = λ marks turn lines.
      no_terms_yet c.args.case.p.now (next_marks c.args.case.p.now c.args.case.pivot.now marks) c.args.terms.now c.in_ok-sum.sum (length c.args.case.lines.now) c.requires.case.count c.in_ok-sum.ensures.unit (corner_after c.args.case.p.now marks c.args.case.pivot.now turn);
}

pub returns-in_err-more-clause-stop : goal.returns-in_err-more-clause-stop
returns-in_err-more-clause-stop c =
    let exit = err_from_is_err_and c.from_residual-in_err-more.result c.from_residual-in_err-more.ensures.1 in
    rw (exit.1, exit.2) (λ marks turn lines attrs.
    attr_stops c.args.case.p.now (next_marks c.args.case.p.now c.args.case.pivot.now marks) c.args.terms.now c.loop-at.at none _ c.loop-at-test.true (c.in_err-more.ensures.stop marks turn lines attrs))

pub returns-in_err-sum-2-clause-stop : goal.returns-in_err-sum-2-clause-stop
returns-in_err-sum-2-clause-stop c =
    let by : SFits w64 (get_or c.args.terms.now c.loop-at.at none).by = small (get_or c.args.terms.now c.loop-at.at none).by (c.requires.terms c.loop-at.at none c.loop-at-test.true).0.small in
    let exit = err_from_is_err_and c.from_residual-in_err-sum-2.result c.from_residual-in_err-sum-2.ensures.1 in
    rw (exit.1, exit.2) (λ marks turn lines attrs.
    more_stops c.args.case.p.now (next_marks c.args.case.p.now c.args.case.pivot.now marks) c.args.terms.now c.loop-at.at none c.loop-at.sum c.in_ok-more.more _ c.loop-at-test.true (corner_after c.args.case.p.now marks c.args.case.pivot.now turn)
    (c.loop-at.invariant.sum marks turn lines) (c.in_ok-more.ensures.attr marks turn lines) (simp to_z-of_z at c.in_err-sum-2.ensures.stop))

pub loop-at-preserved : goal.loop-at-preserved
loop-at-preserved c =
    let by : SFits w64 (get_or c.args.terms.now c.loop-at.at none).by = small (get_or c.args.terms.now c.loop-at.at none).by (c.requires.terms c.loop-at.at none c.loop-at-test.true).0.small in
    let next : IsTermMore c.loop-at.sum (get_or c.args.terms.now c.loop-at.at none).by c.in_ok-more.more c.in_ok-sum-2.sum = simp to_z-of_z at c.in_ok-sum-2.ensures.next in
    record {
      sized = subst (λ (n : ℕ). IsSized n c.in_ok-sum-2.sum) c.loop-at.invariant.sized.count_is c.in_ok-sum-2.ensures.sized;
      kept = c.in_ok-sum-2.ensures.kept;
      sum = λ marks turn lines.
          same_quantity c.args.case.p.now (next_marks c.args.case.p.now c.args.case.pivot.now marks)
          (λ x. terms_of (take c.loop-at.at c.args.terms.now) x +ℤ (get_or c.args.terms.now c.loop-at.at none).by *ℤ x (attr_column (get_or c.args.terms.now c.loop-at.at none).attr)) (terms_of (take (c.loop-at.at + 1) c.args.terms.now)) c.in_ok-sum-2.sum
          (λ x. terms_more c.args.terms.now c.loop-at.at none x c.loop-at-test.true)
          (next c.args.case.p.now (next_marks c.args.case.p.now c.args.case.pivot.now marks) (terms_of (take c.loop-at.at c.args.terms.now)) (λ x. x (attr_column (get_or c.args.terms.now c.loop-at.at none).attr)) (corner_after c.args.case.p.now marks c.args.case.pivot.now turn)
          (c.loop-at.invariant.sum marks turn lines) (c.in_ok-more.ensures.attr marks turn lines));
    }

pub returns-clause-sum : goal.returns-clause-sum
returns-clause-sum c = λ marks turn lines attrs.
    subst (λ (ts : List Term). IsQuantitySum c.args.case.p.now (next_marks c.args.case.p.now c.args.case.pivot.now marks) (terms_of ts) c.loop-at.sum) (take_all c.loop-at.at c.args.terms.now (omega (arith, c.loop-at-test.false)))
    (c.loop-at.invariant.sum marks turn lines)
