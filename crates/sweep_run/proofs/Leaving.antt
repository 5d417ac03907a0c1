-- A mark leaves at the place where its value is 0: the slide is on its way with the marks after it.
use Rattle.std.proofs.Common.{◌≡◌, ◌∙◌, inl, inr, ℕ, ◌<◌, true, List, [], ◌∷◌, ◌++◌, ℤ, pos, ◌*ℤ◌, ◌<ℤ◌, sym, ap, subst, arith, All, Any}
use Rattle.std.specs.declared.option.Option.{Option}
use Rattle.std.specs.Prelude.{Some, None}
use Rattle.std.proofs.lemmas.List.Elements.{All-weaker}
use borrow.Author.Differences.{ints}
use lib.IntN.{*ℤ_comm}
use Rattle.frac_core.specs.Fraction.{Fraction, IsKept}
use Rattle.frac_core.proofs.Integers.{cancel_mul, mul-zero_ℤ, zero-mul_ℤ}
use Rattle.frac_core.proofs.Numbers.{as-natural}
use Rattle.problem_core.specs.declared.parts.Mark.{Mark}
use Rattle.problem_core.specs.Layout.{Problem}
use Rattle.problem_core.specs.Corners.{IsCorner, IsIn, NoNegativeColumn, Point, SameMarks, StandsAt, Swap, attr_column, exchanged, one_column, place}
use Rattle.problem_core.specs.Levels.{CostsAbove}
use Rattle.problem_core.specs.Changes.Paths.{ArePathSwaps, last_marks}
use Rattle.problem_core.proofs.Marks.{same-back}
use Rattle.corner_laws.proofs.MarkWritings.LowestForms.{marks_are_fixed}
use Rattle.corner_laws.proofs.RunSteps.RunPaths.{contains_in, same_stands}
use Rattle.corner_view.specs.Seen.{CornerView, HasValueAt, IsKeptCorner}
use Rattle.corner_ends.specs.Runs.{IsBestEnd}
use Rattle.corner_ends.specs.Trails.{HasRun, IsTrailOf, StaysTrail, Trail}
use Rattle.corner_ends.proofs.MarkOrders.{last_same}
use Rattle.corner_ends.proofs.Trails.{run_sound}
use Rattle.dual_run.specs.Leaving.{HasSwapped}
use Rattle.dual_run.proofs.Lows.{same_sign}
use Rattle.sweep_laws.specs.Laws.{HasPositiveValue, LeavesAt}
use Rattle.sweep_laws.specs.Stops.{IsZeroAt}
use Rattle.sweep_laws.specs.Stretches.{Stretch}
use Rattle.sweep_laws.proofs.EachCorner.{corner_at_each}
use Rattle.sweep_laws.proofs.Farther.{inside-mark}
use Rattle.sweep_laws.proofs.SeenAlike.{columns_at_each}
use Rattle.sweep_run.specs.declared.slides.Slid.{Slid}
use Rattle.sweep_run.specs.declared.slides.Turn.{Turn}
use Rattle.sweep_run.specs.declared.ways.Place.{Place}
use Rattle.sweep_run.specs.declared.ways.Way.{Way}
use Rattle.sweep_run.specs.Slides.{HasShown, IsAtPlace, IsOnWay, IsSlidingFrom, IsTurn}
use Rattle.sweep_run.specs.Told.{stretches_of}
use Rattle.sweep_run.specs.Ways.{IsAtEnd, IsNoLater, there}
use Rattle.sweep_run.proofs.EndFacts.{end_is_kept, there_is_here}
use Rattle.sweep_run.proofs.Orders.{no_later_or_before, one_constant}
use Rattle.sweep_run.proofs.SamePoint.{best_after, stands_after}
use Rattle.sweep_run.proofs.Stopping.{path_there}

-- ---- where a value is 0

none-left : (n : ℕ) (x o : ℤ) → 0 < n → x *ℤ pos n ≡ pos 0 *ℤ o → x ≡ pos 0
none-left n x o above e = cancel_mul n x (pos 0) above (*ℤ_comm (pos n) x ∙ e ∙ zero-mul_ℤ o ∙ sym (mul-zero_ℤ (pos n)))

-- it is 0 at each point of the corner
pub zero_there : (q : Problem) (at : List Mark) (m : Mark) → IsCorner q at → IsIn (place m) at → (z : Point) → StandsAt q at z → z.num (place m) ≡ pos 0 → (x : Point) → StandsAt q at x → x.num (place m) ≡ pos 0
zero_there q at m corner inside z hz none x hx =
    let n = as-natural (z.num one_column) z.positive in
    none-left n.0 (x.num (place m)) (x.num one_column) n.1
    (ap (λ (o : ℤ). x.num (place m) *ℤ o) (sym n.2) ∙ marks_are_fixed q at (place m) corner (inside-mark q at m corner inside) x z hx hz ∙ ap (λ (o : ℤ). o *ℤ x.num one_column) none)

same_trans : (a b c : List Mark) → SameMarks a b → SameMarks b c → SameMarks a c
same_trans a b c f g = ((λ i d within. contains_in b c _ g.0 (f.0 i d within)), (λ i d within. contains_in b a _ f.1 (g.1 i d within)))

-- ---- the marks that left

-- along a lawful path no leaving mark is above 0, and the required rows cost nothing
leaves-on-path : (q : Problem) (at : List Mark) (swaps : List Swap) → IsCorner q at → ArePathSwaps true q at swaps → LeavesAt q at swaps
leaves-on-path q at [] corner lawful = tt
leaves-on-path q at (s ∷ swaps) corner lawful = (not-above, (λ cost. lawful.1 (inr cost)), leaves-on-path q (exchanged s at) swaps lawful.2.corner lawful.4)
  where
    not-above : HasPositiveValue q at s.leave → ⊥
    not-above (x, hx, up) =
        let y : Point = lawful.3.0 in
        let low : x.num (place s.leave) <ℤ pos 0 =
        same_sign (y.num (place s.leave)) (x.num (place s.leave)) (x.num one_column) (y.num one_column) x.positive y.positive
        (marks_are_fixed q at (place s.leave) corner (inside-mark q at s.leave corner lawful.2.leaves) y x lawful.3.1 hx) lawful.3.2 in
        absurd (omega (arith, ints, low, up))

leaves-more : (q : Problem) (at : List Mark) (swaps : List Swap) (s : Swap) → LeavesAt q at swaps → (HasPositiveValue q (last_marks at swaps) s.leave → ⊥) → (CostsAbove q (last_marks at swaps) 0 → ⊥) → LeavesAt q at (swaps ++ s ∷ [])
leaves-more q at [] s h value cost = (value, cost, tt)
leaves-more q at (t ∷ swaps) s h value cost = (h.0, h.1, leaves-more q (exchanged t at) swaps s h.2 value cost)

module _ (c : CornerView) (way : Way) (at_end : IsAtEnd way c) where
  -- so it is at a constant further on
  leaves-further : (first : List Mark) (swaps : List Swap) (a w : Fraction) → IsKept a → IsKept w → HasRun true (there c.problem way way.end) first swaps c.marks → LeavesAt (there c.problem way a) first swaps → IsNoLater way.up a w → IsNoLater way.up w way.end → LeavesAt (there c.problem way w) first swaps
  leaves-further first swaps a w ha hw run leaves later last = elim (no_later_or_before way.up w a) [
    | inl back ↦ subst (λ (f : Fraction). LeavesAt (there c.problem way f) first swaps) (one_constant way.up a w ha hw later back) leaves
    | inr less ↦
        let path = path_there c way at_end first swaps a w ha.lowest.above hw.lowest.above run leaves less last in
        leaves-on-path (there c.problem way w) first swaps path.corner path.lawful
  ]

-- ---- the values stand

shown-after : (p : Problem) (way : Way) (at new : List Mark) (s : Swap) (w : Place) (values : Option (List (ℕ × Fraction))) (ss : List Stretch) → ((x : Point) → StandsAt (there p way w.width) at x → StandsAt (there p way w.width) new x) → HasShown p way at w values ss → HasShown p way new w values ss
shown-after p way at new s w None ss stands h = h
shown-after p way at new s w (Some values) ss stands (later, are) = (
  later,
  record {
    all = are.all;
    there = All-weaker (λ (v : ℕ × Fraction). HasValueAt (there p way w.width) at (attr_column v.0) v.1) (λ (v : ℕ × Fraction). HasValueAt (there p way w.width) new (attr_column v.0) v.1) (λ v h. (h.0, stands h.0 h.1, h.2)) values are.there;
  },
)

-- ---- after the exchange

module _ (c next : CornerView) (way : Way) (at_end : IsAtEnd way c) (kept : IsKeptCorner c.problem c.marks) (kept_next : IsKeptCorner next.problem next.marks) (same : next.problem ≡ c.problem) (first : List Mark) (trail new_trail : Trail) (old slid : Slid) (sliding : IsSlidingFrom first c way trail old)
    (behind : IsAtPlace c.problem way c.marks slid) (turn : Turn) (is : IsTurn c way turn) (there_is : slid.at.width ≡ turn.place.width) (later : IsNoLater way.up old.at.width slid.at.width) (swapped : HasSwapped trail turn.mark new_trail) (stays : StaysTrail true c trail next new_trail) where
  abbrev p : Problem
  p = c.problem

  abbrev w : Fraction
  w = slid.at.width

  abbrev q : Problem
  q = there p way w

  abbrev s : Swap
  s = record { enter = swapped.0; leave = turn.mark }

  at-last : there p way way.end ≡ p
  at-last = there_is_here way c at_end

  he : 0 < way.end.den
  he = (end_is_kept way c at_end).lowest.above

  hw : 0 < w.den
  hw = behind.reached.is.width.lowest.above

  trail-here : IsTrailOf true p first trail c.marks
  trail-here = subst (λ (k : Problem). IsTrailOf true k first trail c.marks) at-last sliding.on_way.trail_is

  trail-there : IsTrailOf true next.problem first new_trail next.marks
  trail-there = stays first trail-here

  trail-next : IsTrailOf true p first new_trail next.marks
  trail-next = subst (λ (k : Problem). IsTrailOf true k first new_trail next.marks) same trail-there

  zero : IsZeroAt p way.row c.marks turn.mark w
  zero = subst (λ (f : Fraction). IsZeroAt p way.row c.marks turn.mark f) (sym there_is) is.turns.zero

  corner-at : (at : List Mark) → IsCorner p at → IsCorner q at
  corner-at at corner = corner_at_each p way.row at way.end w at_end.whole he hw (subst (λ (k : Problem). IsCorner k at) (sym at-last) corner)

  corner-here : IsCorner q c.marks
  corner-here = corner-at c.marks kept.corner

  corner-next : IsCorner q next.marks
  corner-next = corner-at next.marks (subst (λ (k : Problem). IsCorner k next.marks) same kept_next.corner)

  no-value : (x : Point) → StandsAt q c.marks x → x.num (place turn.mark) ≡ pos 0
  no-value x hx = zero_there q c.marks turn.mark corner-here is.turns.inside zero.0 zero.1 zero.2 x hx

  new-marks : SameMarks (exchanged s c.marks) next.marks
  new-marks =
      let last : SameMarks (last_marks first (trail.swaps ++ s ∷ [])) next.marks = subst (λ (xs : List Swap). SameMarks (last_marks first xs) next.marks) swapped.1 trail-next.swapped.here in
      same_trans (exchanged s c.marks) (last_marks first (trail.swaps ++ s ∷ [])) next.marks
      (same-back (last_marks first (trail.swaps ++ s ∷ [])) (exchanged s c.marks) (last_same first c.marks trail.swaps s trail-here.swapped.here is.turns.inside)) last

  stands-next : (x : Point) → StandsAt q c.marks x → StandsAt q next.marks x
  stands-next x hx = stands_after q c.marks next.marks s x hx (no-value x hx) new-marks

  columns-next : NoNegativeColumn q next.marks
  columns-next = columns_at_each p way.row next.marks way.end w (subst (λ (k : Problem). NoNegativeColumn k next.marks) (sym at-last) (run_sound true p first next.marks new_trail.swaps trail-next.swapped))

  best-next : IsBestEnd q next.marks
  best-next =
      let v = behind.reached.best.values in
      best_after q c.marks next.marks s v.0 corner-here corner-next v.1 v.2 (no-value v.0 v.1) new-marks columns-next behind.reached.best.required

  behind-next : IsAtPlace p way next.marks slid
  behind-next = record {
    reached = record { is = behind.reached.is; on_way = behind.reached.on_way; best = best-next };
    from = behind.from;
    shown_from = behind.shown_from;
    shown = shown-after p way c.marks next.marks s slid.at slid.values (stretches_of slid.stretches.items) stands-next behind.shown;
    covers = behind.covers;
    right = behind.right;
    pieces = behind.pieces;
    long = behind.long;
  }

  stands-back : (x : Point) → StandsAt q (last_marks first trail.swaps) x → StandsAt q c.marks x
  stands-back x hx = same_stands q c.marks (last_marks first trail.swaps) x (λ v i. contains_in (last_marks first trail.swaps) c.marks v trail-here.swapped.here.0 i) hx

  last-value : HasPositiveValue q (last_marks first trail.swaps) turn.mark → ⊥
  last-value (x, hx, up) = let none = no-value x (stands-back x hx) in absurd (omega (arith, ints, none, up))

  last-cost : CostsAbove q (last_marks first trail.swaps) 0 → ⊥
  last-cost (x, hx, cost) = behind.reached.best.required (x, stands-back x hx, cost)

  leaves-next : LeavesAt q first new_trail.swaps
  leaves-next =
      subst (λ (xs : List Swap). LeavesAt q first xs) (sym swapped.1)
      (leaves-more q first trail.swaps s
      (leaves-further c way at_end first trail.swaps old.at.width w sliding.on_way.behind.reached.is.width behind.reached.is.width sliding.on_way.trail_is.swapped sliding.on_way.leaves later behind.reached.is.no_later) last-value last-cost)

  on-way-next : IsOnWay p way first new_trail next.marks slid
  on-way-next = record { trail_is = subst (λ (k : Problem). IsTrailOf true k first new_trail next.marks) (sym at-last) trail-next; leaves = leaves-next; behind = behind-next }

  pub slides_on : IsSlidingFrom first next way new_trail slid
  slides_on = record {
    at_end = record {
      whole = kept_next.whole;
      held = subst (λ (k : Problem). Any (λ r. r.id ≡ way.row) k.rows) (sym same) at_end.held;
      constant = subst (λ (k : Problem). All (λ r. r.id ≡ way.row → r.constant ≡ way.end) k.rows) (sym same) at_end.constant;
      parts = at_end.parts;
    };
    columns = run_sound true next.problem first next.marks new_trail.swaps trail-there.swapped;
    on_way = subst (λ (k : Problem). IsOnWay k way first new_trail next.marks slid) (sym same) on-way-next;
  }
