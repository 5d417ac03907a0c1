-- The farthest crossing of some lines, line by line.
use Rattle.std.proofs.Common.{◌≡◌, ◌∙◌, inl, inr, List, refl, sym, ap, subst}
use Rattle.std.specs.declared.option.Option.{Option}
use Rattle.std.specs.Prelude.{Some, None}
use Rattle.problem_core.specs.declared.parts.Mark.{Mark}
use Rattle.problem_core.specs.declared.parts.RowName.{RowName}
use Rattle.problem_core.specs.Layout.{Problem}
use Rattle.problem_core.specs.Corners.{HasNegativeValue}
use Rattle.corner_view.specs.Seen.{CornerView, IsKeptCorner}
use Rattle.dual_run.specs.Leaving.{HasNoLow, IsLow}
use Rattle.sweep_run.specs.declared.rates.Crossing.{Crossing}
use Rattle.sweep_run.specs.declared.ways.Way.{Way}
use Rattle.sweep_run.specs.Ways.{HasCrossingWithin, IsAsFar, IsBetterOf, IsCrossing, IsFarther, there}
use Rattle.sweep_run.proofs.Soonest.{as_far_self, one_low}

no-low-row : (q : Problem) (at : List Mark) (line : RowName) (m : Mark) → HasNoLow q at line → IsLow q at m → m.row ≡ line → ⊥
no-low-row q at line m none low e = none m.side (subst (λ (n : RowName). HasNegativeValue q at (record { row = n; side = m.side })) e low.value)

module _ (c : CornerView) (way : Way) (line : RowName) (same : there c.problem way way.end ≡ c.problem) where
  low-here : (m : Mark) → IsLow (there c.problem way way.end) c.marks m → IsLow c.problem c.marks m
  low-here m low = subst (λ (q : Problem). IsLow q c.marks m) same low

  -- the line has no low mark
  pub better_none : (found : Option Crossing) → HasNoLow c.problem c.marks line → IsBetterOf c way found line found
  better_none None none = record { kept = tt; new = tt; first = λ m low e. absurd (no-low-row c.problem c.marks line m none (low-here m low) e) }
  better_none (Some a) none = record {
    kept = (as_far_self a, tt);
    new = inl refl;
    first = λ m low e. absurd (no-low-row c.problem c.marks line m none (low-here m low) e);
  }

  module _ (kept : IsKeptCorner c.problem c.marks) (mark : Mark) (low : IsLow c.problem c.marks mark) (row : mark.row ≡ line) (next : Crossing) (mark_is : next.mark ≡ mark) (crossing : IsCrossing c.problem c.marks way next) where
    within : (f : Crossing) (m : Mark) → IsAsFar f next → IsLow (there c.problem way way.end) c.marks m → m.row ≡ line → HasCrossingWithin c.problem c.marks way f m
    within f m far low-m e = (next, crossing, mark_is ∙ sym (one_low c.problem c.marks mark m kept low (low-here m low-m) (e ∙ sym row)), far)

    -- nothing was found before
    pub better_alone : IsBetterOf c way None line (Some next)
    better_alone = record { kept = tt; new = inr crossing; first = λ m low-m e. (within next m (as_far_self next) low-m e, tt) }

    -- the farther one of what was found and the line's
    pub better_both : (best f : Crossing) → IsFarther best next f → IsBetterOf c way (Some best) line (Some f)
    better_both best f far = record {
      kept = (far.first, tt);
      new = elim far.one [
        | inl e ↦ inl (ap (λ (x : Crossing). Some x) (sym e))
        | inr e ↦ inr (subst (IsCrossing c.problem c.marks way) (sym e) crossing)
      ];
      first = λ m low-m e. (within f m far.second low-m e, tt);
    }
