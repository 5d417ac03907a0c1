-- A slide that stops where a mark's crossing doesn't fit.
use Rattle.std.proofs.Common.{◌≡◌, ◌∙◌, inl, inr, ℕ, ◌*◌, ◌<◌, ◌≤◌, Bool, true, false, List, length, ℤ, pos, ◌*ℤ◌, neg_ℤ, refl, sym, ap, subst, arith, unsigned_abs, Any}
use Rattle.std.specs.Int.{IsGcd}
use borrow.Author.Differences.{ints}
use Rattle.frac_core.specs.Fraction.{Fraction, IsKept, IsRatio}
use Rattle.frac_core.specs.declared.frac.TheConstants.{PART_BOUND}
use Rattle.frac_core.proofs.Numbers.{neg-times}
use Rattle.problem_core.specs.declared.parts.Mark.{Mark}
use Rattle.problem_core.specs.Layout.{Problem}
use Rattle.problem_core.specs.Corners.{IsIn, SameMarks, place}
use Rattle.problem_core.specs.Changes.Paths.{IsPath, last_marks}
use Rattle.corner_laws.proofs.RunSteps.RunPaths.{contains_in, same_stands}
use Rattle.cert_core.specs.Paths.{Path}
use Rattle.corner_lines.specs.Shifts.{with_constant}
use Rattle.corner_view.specs.Seen.{CornerView, IsKeptCorner}
use Rattle.corner_ends.specs.Trails.{IsTrailOf, Trail}
use Rattle.corner_ends.proofs.Trails.{run_lawful}
use Rattle.sweep_laws.specs.Fractions.{IsBetween, IsTooLarge, difference}
use Rattle.sweep_laws.specs.Stops.{IsSlideFar, IsUnfitTurn, Turns}
use Rattle.sweep_run.specs.declared.rates.Crossing.{Crossing}
use Rattle.sweep_run.specs.declared.stretches.SweepQuantity.{SweepQuantity}
use Rattle.sweep_run.specs.declared.stretches.SweepQuantity.TheVariants.{Breakpoint}
use Rattle.sweep_run.specs.declared.stretches.SweepStop.{SweepStop}
use Rattle.sweep_run.specs.declared.stretches.SweepStop.TheVariants.{Unfit, Spent, OutOfMemory}
use Rattle.sweep_run.specs.declared.ways.Way.{Way}
use Rattle.sweep_run.specs.Slides.{IsSlideStop, IsStopAfter, IsUnfitWith}
use Rattle.sweep_run.specs.Ways.{HasReached, IsNoLater, IsSoonest, IsUnfitCrossing, far_back}
use Rattle.sweep_run.proofs.BackRates.{at_its_end}
use Rattle.sweep_run.proofs.Constants.{constant_at}
use Rattle.sweep_run.proofs.Moves.{HasOwn}
use Rattle.sweep_run.proofs.NextTurns.{on_way_there, turns_there}
use Rattle.sweep_run.proofs.Shares.{turned-gap}

-- ---- the other sign

same-size : (z : ℤ) → unsigned_abs (neg_ℤ z) ≡ unsigned_abs z
same-size z = omega (arith, ints)

abbrev below-zero : Fraction → Fraction
below-zero g = record { num = neg_ℤ g.num; den = g.den }

turned-kept : (g : Fraction) → IsKept g → IsKept (below-zero g)
turned-kept g kept = record {
  lowest = record { above = kept.lowest.above; coprime = subst (λ (n : ℕ). IsGcd n g.den 1) (sym (same-size g.num)) kept.lowest.coprime };
  fits = record { num_fits = subst (λ (n : ℕ). n < PART_BOUND) (sym (same-size g.num)) kept.fits.num_fits; den_fits = kept.fits.den_fits };
}

turned-ratio : (a b : Fraction) (g : Fraction) → IsRatio g (difference a b).num (pos (difference a b).den) → IsRatio (below-zero g) (difference b a).num (pos (difference b a).den)
turned-ratio a b g r =
    let e : b.den * a.den ≡ a.den * b.den = omega arith in
    ap (λ (n : ℕ). neg_ℤ g.num *ℤ pos n) e
    ∙ neg-times g.num (pos (a.den * b.den))
    ∙ ap neg_ℤ r
    ∙ sym (neg-times (difference a b).num (pos g.den))
    ∙ ap (λ (z : ℤ). z *ℤ pos g.den) (sym (turned-gap b a))

large-from : (up : Bool) (w end : Fraction) → IsTooLarge (far_back up w end) → IsTooLarge (difference w end)
large-from true w end large = λ g kept r. large (below-zero g) (turned-kept g kept) (turned-ratio w end g r)
large-from false w end large = large

pub between-on : (up : Bool) (a w end : Fraction) → IsNoLater up a w → IsNoLater up w end → IsBetween a end w
between-on true a w end first last = inl (first, last)
between-on false a w end first last = inr (last, first)

-- ---- the marks in another order

pub turns-alike : (p : Problem) (row : ℕ) (at other : List Mark) (m : Mark) (w : Fraction) → SameMarks other at → Turns p row at m w → Turns p row other m w
turns-alike p row at other m w same turns =
    let into : (v : ℕ) → IsIn v at → IsIn v other = λ v i. contains_in at other v same.1 i in
    let z = turns.zero in
    let o = turns.other in
    record {
      inside = into (place m) turns.inside;
      zero = (z.0, same_stands (with_constant row w p) other at z.0 into z.1, z.2);
      other = (o.0, o.1, (o.2.0, same_stands (with_constant row o.0 p) other at o.2.0 into o.2.1, o.2.2));
    }

-- ---- the stop

module _ (c : CornerView) (way : Way) (kept : IsKeptCorner c.problem c.marks) (held : Any (λ r. r.id ≡ way.row) c.problem.rows) (own_constant : HasOwn c.problem way.row way.end) (he : 0 < way.end.den) (before : HasReached c.problem way c.marks) (x : Crossing) (soon : IsSoonest c.problem c.marks way x) (unfit : IsUnfitCrossing way x) where
  unfit-turn : (other : List Mark) → SameMarks other c.marks → IsUnfitTurn c.problem way.row way.first.width way.end other x.mark
  unfit-turn other same =
      let v = constant_at way.up way.end x.p x.q he soon.crossing.above_p soon.crossing.above_q in
      record {
        w = v.w;
        lowest = v.lowest;
        between = between-on way.up way.first.width v.w way.end (on_way_there c.problem c.marks way kept held own_constant he before x soon v.w v.lowest.above v.at) v.to_end;
        turns = turns-alike c.problem way.row c.marks other x.mark v.w same (turns_there c.problem c.marks way kept held own_constant he before x soon v.w v.lowest.above v.at);
        large = elim (unfit v.w v.lowest.above v.at) [
          | inl large ↦ inl large
          | inr far ↦ inr (large-from way.up v.w way.end far)
        ];
      }

  slide-far : (first : List Mark) (trail : Trail) (budget : ℕ) → IsTrailOf true c.problem first trail c.marks → length trail.swaps ≤ budget → IsSlideFar c.problem way.row first way.first.width way.end budget (record { dual = true; corner = first; swaps = trail.swaps }) x.mark
  slide-far first trail budget is few = record {
    leads = record {
      kind = refl;
      begins = refl;
      lawful = subst (λ (q : Problem). IsPath true q first trail.swaps) (sym (at_its_end c.problem c.marks way kept held own_constant he)) (run_lawful true c.problem first c.marks trail.swaps is.swapped);
      few = few;
    };
    turn = unfit-turn (last_marks first trail.swaps) is.swapped.here;
  }

  pub far_stop : (trail : Trail) (stop : SweepStop) → IsUnfitWith c trail way.end (Breakpoint x.mark) stop → (budget : ℕ) → IsStopAfter c way trail budget stop
  far_stop trail (Unfit width path what) (width_is, what_is, by) = λ budget first is few.
      subst (λ (q : SweepQuantity). IsSlideStop c.problem first way budget (Unfit width path q)) (sym what_is)
      (width_is, subst (λ (route : Path). IsSlideFar c.problem way.row first way.first.width way.end budget route x.mark) (sym (by true first is)) (slide-far first trail budget is few))
  far_stop trail (Spent width path) none = absurd none
  far_stop trail OutOfMemory tt = λ budget first is few. tt
