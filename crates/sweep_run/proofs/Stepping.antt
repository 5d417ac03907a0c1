-- A step of a slide, and the slide from its beginning to its end.
use Rattle.std.proofs.Common.{◌≡◌, inl, inr, ℕ, ◌<◌, true, List, [], length, sym, subst, arith}
use Rattle.frac_core.specs.Fraction.{Fraction}
use Rattle.problem_core.specs.declared.parts.Mark.{Mark}
use Rattle.problem_core.specs.Layout.{Problem}
use Rattle.problem_core.specs.Corners.{NoNegativeColumn, NoNegativeValue, Swap}
use Rattle.problem_core.specs.Levels.{CostsAbove}
use Rattle.corner_view.specs.Seen.{CornerView, IsKeptCorner, Scene}
use Rattle.corner_ends.specs.Runs.{IsBestEnd}
use Rattle.corner_ends.specs.Trails.{IsTrailOf, Trail}
use Rattle.corner_lines.specs.Shifts.{with_constant}
use Rattle.dual_run.specs.Leaving.{IsLow, MayLeave}
use Rattle.dual_run.proofs.Lows.{may_leave}
use Rattle.sweep_laws.specs.Laws.{LeavesAt}
use Rattle.sweep_laws.proofs.OneConstant.{constant_seen}
use Rattle.sweep_laws.proofs.SeenAlike.{columns-seen}
use Rattle.sweep_run.specs.declared.slides.Slid.{Slid}
use Rattle.sweep_run.specs.declared.slides.Turn.{Turn}
use Rattle.sweep_run.specs.declared.stretches.SweepStop.{SweepStop}
use Rattle.sweep_run.specs.declared.ways.Place.{Place}
use Rattle.sweep_run.specs.declared.ways.Way.{Way}
use Rattle.sweep_run.specs.Slides.{HasBegun, HasSlid, IsAtPlace, IsMarked, IsSlideStop, IsSlidingFrom, IsTurn, MayAdvance}
use Rattle.sweep_run.specs.Ways.{IsAtEnd, IsNoLater, IsPlace, there}
use Rattle.sweep_run.proofs.Carried.{SameThere, at_place_same, same_over, same_turned, slid_same, stop_same}
use Rattle.sweep_run.proofs.EndFacts.{there_is_here}

-- ---- a step

pub trail_of : (c : CornerView) (way : Way) (first : List Mark) (trail : Trail) (slid : Slid) → IsSlidingFrom first c way trail slid → IsTrailOf true c.problem first trail c.marks
trail_of c way first trail slid sliding = subst (λ (k : Problem). IsTrailOf true k first trail c.marks) (there_is_here way c sliding.at_end) sliding.on_way.trail_is

module _ (c : CornerView) (way : Way) (at_end : IsAtEnd way c) where
  -- the mark that is 0 first may leave
  pub turn_leaves : IsKeptCorner c.problem c.marks → (CostsAbove c.problem c.marks 0 → ⊥) → (turn : Turn) → IsTurn c way turn → MayLeave c.problem c.marks turn.mark
  turn_leaves kept free turn is =
      let low : IsLow c.problem c.marks is.soonest.mark = subst (λ (k : Problem). IsLow k c.marks is.soonest.mark) (there_is_here way c at_end) is.is.crossing.low in
      may_leave c.problem c.marks turn.mark kept free (subst (IsLow c.problem c.marks) (sym is.mark_is) low)

  -- up to there the slide may go on
  pub turn_advances : (slid : Slid) → IsAtPlace c.problem way c.marks slid → (turn : Turn) → IsTurn c way turn → MayAdvance c way slid turn.place
  turn_advances slid h turn is = record { reached = is.reached; later = is.later slid.at h.reached; told = inr (turn.mark, is.turns) }

  -- or to the end, where no value is negative there
  pub last_advances : (slid : Slid) → IsAtPlace c.problem way c.marks slid → (last : Place) → IsPlace way.up way.end last → last.width ≡ way.end → NoNegativeValue c.problem c.marks → NoNegativeColumn c.problem c.marks → (CostsAbove c.problem c.marks 0 → ⊥) → MayAdvance c way slid last
  last_advances slid h last is end values columns free =
      let best : IsBestEnd (there c.problem way way.end) c.marks = subst (λ (k : Problem). IsBestEnd k c.marks) (sym (there_is_here way c at_end)) (record { values = values; columns = columns; required = free }) in
      record {
        reached = record {
          is = is;
          on_way = subst (λ (f : Fraction). IsNoLater way.up way.first.width f) (sym end) at_end.parts.first.no_later;
          best = subst (λ (f : Fraction). IsBestEnd (there c.problem way f) c.marks) (sym end) best;
        };
        later = subst (λ (f : Fraction). IsNoLater way.up slid.at.width f) (sym end) h.reached.is.no_later;
        told = inl end;
      }

  pub turn_later : (old slid : Slid) (turn : Turn) → IsAtPlace c.problem way c.marks old → IsTurn c way turn → slid.at.width ≡ turn.place.width → IsNoLater way.up old.at.width slid.at.width
  turn_later old slid turn h is there_is = subst (λ (f : Fraction). IsNoLater way.up old.at.width f) (sym there_is) (is.later old.at h.reached)

-- ---- the whole slide

pub marked_some : (c : CornerView) → IsMarked c → 0 < length c.before
marked_some c (rest, e) = subst (λ (scenes : List Scene). 0 < length scenes) (sym e) (omega arith)

module _ (p : Problem) (way : Way) (next : CornerView) (same : next.problem ≡ with_constant way.row way.end p) where
  same-here : SameThere way.row p next.problem
  same-here = subst (λ (k : Problem). SameThere way.row p k) (sym same) (same_turned (with_constant way.row way.end p) p way.row (same_over p way.row way.end))

  pub columns_here : (at : List Mark) → next.marks ≡ at → NoNegativeColumn p at → NoNegativeColumn next.problem next.marks
  columns_here at marks columns =
      subst (λ (k : Problem). NoNegativeColumn k next.marks) (sym same)
      (subst (λ (ms : List Mark). NoNegativeColumn (with_constant way.row way.end p) ms) (sym marks) (columns-seen p (with_constant way.row way.end p) at (sym (constant_seen p way.row way.end)) columns))

  -- nothing is behind it yet
  pub begins_sliding : (at : List Mark) (slid : Slid) (trail : Trail) → next.marks ≡ at → NoNegativeColumn p at → HasBegun p at way slid → IsAtEnd way next → IsTrailOf true next.problem next.marks trail next.marks → trail.swaps ≡ [] → IsSlidingFrom at next way trail slid
  begins_sliding at slid trail marks columns begun at_end is none = record {
    at_end = at_end;
    columns = columns_here at marks columns;
    on_way = record {
      trail_is = subst (λ (ms : List Mark). IsTrailOf true (there next.problem way way.end) ms trail next.marks) marks (subst (λ (k : Problem). IsTrailOf true k next.marks trail next.marks) (sym (there_is_here way next at_end)) is);
      leaves = subst (λ (xs : List Swap). LeavesAt (there next.problem way slid.at.width) at xs) (sym none) tt;
      behind = subst (λ (ms : List Mark). IsAtPlace next.problem way ms slid) (sym marks) (at_place_same p next.problem way same-here at slid begun.2);
    };
  }

  -- what is through at the end's constant is so for the problem as it was
  pub slid_back : (slid : Slid) → HasSlid next.problem way slid → HasSlid p way slid
  slid_back slid h = slid_same next.problem p way (same_turned p next.problem way.row same-here) slid h

  pub stop_back : (first : List Mark) (budget : ℕ) (stop : SweepStop) → IsSlideStop next.problem first way budget stop → IsSlideStop p first way budget stop
  stop_back first budget stop h = stop_same next.problem p way (same_turned p next.problem way.row same-here) first budget stop h
