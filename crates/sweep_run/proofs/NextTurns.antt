-- Where the mark that is 0 first leaves: the marks are a best end there, and at none beyond it.
use Rattle.std.proofs.Common.{◌≡◌, ◌≢◌, inl, inr, ℕ, ◌<◌, Bool, true, false, List, ℤ, pos, ◌≤ℤ◌, ◌<ℤ◌, sym, subst, arith, Any}
use Rattle.std.proofs.lemmas.List.Elements.{All-from_recursion, recursion_from_All}
use borrow.Author.Differences.{ints}
use Rattle.frac_core.specs.Fraction.{Fraction}
use Rattle.frac_core.proofs.Numbers.{low-or-up}
use Rattle.problem_core.specs.declared.parts.Mark.{Mark}
use Rattle.problem_core.specs.Layout.{Problem}
use Rattle.problem_core.specs.Corners.{HasNegativeValue, IsCorner, IsIn, NoNegativeValue, Point, StandsAt, one_column, place}
use Rattle.problem_core.specs.Levels.{CostsAbove}
use Rattle.problem_core.proofs.Forms.{each-impl}
use Rattle.problem_core.proofs.Marks.{in-list as in_list}
use Rattle.corner_laws.proofs.MarkWritings.LowestForms.{marks_are_fixed}
use Rattle.corner_laws.proofs.WrittenValues.{contains_each}
use Rattle.corner_lines.specs.Shifts.{with_constant}
use Rattle.corner_lines.proofs.ProblemChanges.ShiftedCorner.{shift_corner}
use Rattle.corner_view.specs.Seen.{CornerView, IsKeptCorner}
use Rattle.corner_ends.specs.Runs.{IsBestEnd}
use Rattle.dual_run.specs.Leaving.{IsLow}
use Rattle.dual_run.proofs.Lows.{same_sign}
use Rattle.sweep_laws.specs.Fractions.{IsNoMore, difference}
use Rattle.sweep_laws.specs.Laws.{IsMix}
use Rattle.sweep_laws.specs.Stops.{Turns}
use Rattle.sweep_laws.proofs.Costs.{costs_between}
use Rattle.sweep_laws.proofs.Farther.{inside-mark}
use Rattle.sweep_laws.proofs.Mixtures.{between_mixes, mix, mix-is, mix_stands, up-mixed}
use Rattle.sweep_laws.proofs.SeenAlike.{columns_at_each}
use Rattle.sweep_run.specs.declared.rates.Crossing.{Crossing}
use Rattle.sweep_run.specs.declared.slides.Turn.{Turn}
use Rattle.sweep_run.specs.declared.ways.Place.{Place}
use Rattle.sweep_run.specs.declared.ways.Way.{Way}
use Rattle.sweep_run.specs.Slides.{IsTurn}
use Rattle.sweep_run.specs.Ways.{HasReached, IsAtCrossing, IsNoLater, IsPlaceOf, IsReached, IsSoonest, there}
use Rattle.sweep_run.proofs.BackRates.{at_its_end}
use Rattle.sweep_run.proofs.Constants.{constant_at, farther_first, no_later_through}
use Rattle.sweep_run.proofs.Moves.{HasOwn, shift-to}
use Rattle.sweep_run.proofs.Turns.{low_between, never_zero, no_earlier}

-- ---- between two constants of a way

-- negative at both
low-on-way : (p : Problem) (row : ℕ) (at : List Mark) (m : Mark) (up : Bool) (a b w : Fraction) → 0 < a.den → 0 < b.den → 0 < w.den → IsNoLater up a w → IsNoLater up w b → HasNegativeValue (with_constant row a p) at m → HasNegativeValue (with_constant row b p) at m
    → HasNegativeValue (with_constant row w p) at m
low-on-way p row at m true a b w ha hb hw first last low-a low-b = low_between p row at m a b w ha hb hw first last low-a low-b
low-on-way p row at m false a b w ha hb hw first last low-a low-b = low_between p row at m b a w hb ha hw last first low-b low-a

-- not negative at both
abbrev IsUpAt : Problem → List Mark → Mark → Type 0
IsUpAt q at m = (x : Point) × StandsAt q at x × (pos 0 ≤ℤ x.num (place m))

up-between : (p : Problem) (row : ℕ) (at : List Mark) (m : Mark) (a b w : Fraction) → 0 < a.den → 0 < b.den → 0 < w.den → IsNoMore a w → IsNoMore w b → IsUpAt (with_constant row a p) at m → IsUpAt (with_constant row b p) at m → IsUpAt (with_constant row w p) at m
up-between p row at m a b w ha hb hw first last (x, hx, ux) (y, hy, uy) =
    let s = between_mixes a b w ha hb hw first last in
    let z : Point = mix s.0 s.1 s.2.some x y in
    let is : IsMix x y s.0 s.1 z = mix-is s.0 s.1 s.2.some x y in
    (z, mix_stands p row at a b w s.0 s.1 x y z ha hb s.2 hx hy is, up-mixed x y z s.0 s.1 (place m) is ux uy)

up-on-way : (p : Problem) (row : ℕ) (at : List Mark) (m : Mark) (up : Bool) (a b w : Fraction) → 0 < a.den → 0 < b.den → 0 < w.den → IsNoLater up a w → IsNoLater up w b → IsUpAt (with_constant row a p) at m → IsUpAt (with_constant row b p) at m → IsUpAt (with_constant row w p) at m
up-on-way p row at m true a b w ha hb hw first last up-a up-b = up-between p row at m a b w ha hb hw first last up-a up-b
up-on-way p row at m false a b w ha hb hw first last up-a up-b = up-between p row at m b a w hb ha hw last first up-b up-a

free-on-way : (p : Problem) (row : ℕ) (at : List Mark) (up : Bool) (a b w : Fraction) → IsKeptCorner p at → IsCorner (with_constant row a p) at → IsCorner (with_constant row b p) at → 0 < a.den → 0 < b.den → 0 < w.den → IsNoLater up a w → IsNoLater up w b → (CostsAbove (with_constant row a p) at 0 → ⊥) → (CostsAbove (with_constant row b p) at 0 → ⊥)
    → CostsAbove (with_constant row w p) at 0 → ⊥
free-on-way p row at true a b w kept ca cb ha hb hw first last free-a free-b = costs_between p row at a b w kept.whole ha hb hw first last ca free-a free-b
free-on-way p row at false a b w kept ca cb ha hb hw first last free-a free-b = costs_between p row at b a w kept.whole hb ha hw last first cb free-b free-a

-- an inside mark isn't both
never-both : (q : Problem) (at : List Mark) (m : Mark) → IsCorner q at → IsIn (place m) at → IsUpAt q at m → HasNegativeValue q at m → ⊥
never-both q at m corner inside (x, stands, up) (y, there, low) =
    let x-low : x.num (place m) <ℤ pos 0 = same_sign (y.num (place m)) (x.num (place m)) (x.num one_column) (y.num one_column) x.positive y.positive (marks_are_fixed q at (place m) corner (inside-mark q at m corner inside) y x there stands) low in
    absurd (omega (arith, ints, x-low, up))

low-some : (z : ℤ) → z <ℤ pos 0 → z ≢ pos 0
low-some z low e = omega (arith, ints, low, e)

-- ---- the soonest

module _ (p : Problem) (at : List Mark) (way : Way) (kept : IsKeptCorner p at) (held : Any (λ r. r.id ≡ way.row) p.rows) (own_constant : HasOwn p way.row way.end) (he : 0 < way.end.den) (before : HasReached p way at) (x : Crossing) (soon : IsSoonest p at way x) where
  corner-at : (w : Fraction) → 0 < w.den → IsCorner (there p way w) at
  corner-at w hw = shift_corner p at way.row way.end w (difference w way.end) kept.whole kept.corner kept.rays (shift-to p way.row way.end w held own_constant he hw)

  -- no place at which the marks are a best end is beyond it
  pub none_beyond : (b : Place) → IsReached p way at b → (w : Fraction) → 0 < w.den → IsAtCrossing way x w → IsNoLater way.up b.width w
  none_beyond b reached w hw at_w =
      no_earlier p way.row at x.mark way.up way.end b.width w he hw (corner-at b.width reached.is.width.lowest.above) soon.crossing.low.inside reached.is.no_later reached.best.values (soon.crossing.zero w hw at_w) soon.crossing.low.value

  pub turns_there : (w : Fraction) → 0 < w.den → IsAtCrossing way x w → Turns p way.row at x.mark w
  turns_there w hw at_w =
      let low = soon.crossing.low.value in
      record {
        inside = soon.crossing.low.inside;
        zero = soon.crossing.zero w hw at_w;
        other = (way.end, he, (low.0, low.1, low-some (low.0.num (place x.mark)) low.2));
      }

  module _ (w : Fraction) (hw : 0 < w.den) (at_w : IsAtCrossing way x w) (to_end : IsNoLater way.up w way.end) where
    -- a mark that is negative at the end isn't there yet
    not-yet : (m : Mark) → IsLow (there p way way.end) at m → HasNegativeValue (there p way w) at m → ⊥
    not-yet m low here =
        let y = soon.first m low in
        let v = constant_at way.up way.end y.0.p y.0.q he y.1.above_p y.1.above_q in
        let after : IsNoLater way.up w v.w = farther_first way.up way.end w v.w x.p x.q y.0.p y.0.q he soon.crossing.above_q y.1.above_q at_w v.at y.3 in
        let zero = y.1.zero v.w v.lowest.above v.at in
        never_zero (there p way v.w) at m (corner-at v.w v.lowest.above) low.inside zero.0 zero.1 (subst (λ (n : Mark). zero.0.num (place n) ≡ pos 0) y.2 zero.2)
        (low-on-way p way.row at m way.up w way.end v.w hw he v.lowest.above after v.to_end here low.value)

    up-before : (m : Mark) → IsIn (place m) at → IsUpAt (there p way before.0.width) at m
    up-before m inside =
        let values = before.1.best.values in
        (values.0, values.1, contains_each (λ c. pos 0 ≤ℤ values.0.num c) at (place m) (recursion_from_All (λ k. pos 0 ≤ℤ values.0.num (place k)) at values.2) inside)

    never-low-there : (m : Mark) → IsIn (place m) at → HasNegativeValue (there p way w) at m → ⊥
    never-low-there m inside low =
        let e = corner-at way.end he in
        elim (low-or-up (e.point.num (place m))) [
          | inl down ↦ not-yet m (record { inside = inside; value = (e.point, e.stands, down) }) low
          | inr up ↦
              never-both (there p way w) at m (corner-at w hw) inside
              (up-on-way p way.row at m way.up before.0.width way.end w before.1.is.width.lowest.above he hw (none_beyond before.0 before.1 w hw at_w) to_end (up-before m inside) (e.point, e.stands, up)) low
        ]

    values-there : NoNegativeValue (there p way w) at
    values-there =
        let k = corner-at w hw in (
          k.point,
          k.stands,
          All-from_recursion (λ m. pos 0 ≤ℤ k.point.num (place m)) at
              (each-impl (λ m. IsIn (place m) at) (λ m. pos 0 ≤ℤ k.point.num (place m)) at
              (λ m inside. elim (low-or-up (k.point.num (place m))) [
                | inr up ↦ up
                | inl low ↦ absurd (never-low-there m inside (k.point, k.stands, low))
              ])
              (in_list at)),
        )

    pub best_there : (CostsAbove p at 0 → ⊥) → IsBestEnd (there p way w) at
    best_there free = record {
      values = values-there;
      columns = columns_at_each p way.row at before.0.width w before.1.best.columns;
      required =
          free-on-way p way.row at way.up before.0.width way.end w kept (corner-at before.0.width before.1.is.width.lowest.above) (corner-at way.end he) before.1.is.width.lowest.above he hw (none_beyond before.0 before.1 w hw at_w) to_end before.1.best.required
          (λ costs. free (subst (λ (q : Problem). CostsAbove q at 0) (at_its_end p at way kept held own_constant he) costs));
    }

  -- at or behind the place where the way begins
  pub on_way_there : (w : Fraction) → 0 < w.den → IsAtCrossing way x w → IsNoLater way.up way.first.width w
  on_way_there w hw at_w = no_later_through way.up way.first.width before.0.width w before.1.is.width.lowest.above before.1.on_way (none_beyond before.0 before.1 w hw at_w)

pub is_turn : (c : CornerView) (way : Way) (kept : IsKeptCorner c.problem c.marks) (held : Any (λ r. r.id ≡ way.row) c.problem.rows) (own_constant : HasOwn c.problem way.row way.end) → 0 < way.end.den → (CostsAbove c.problem c.marks 0 → ⊥) → HasReached c.problem way c.marks
    → (x : Crossing) → IsSoonest c.problem c.marks way x → (turn : Turn) → turn.mark ≡ x.mark → IsPlaceOf way x turn.place → IsTurn c way turn
is_turn c way kept held own_constant he free before x soon turn mark place_is =
    let w : Fraction = turn.place.width in
    let hw : 0 < w.den = place_is.is.width.lowest.above in
    record {
      soonest = x;
      is = soon;
      mark_is = mark;
      place = place_is;
      reached = record {
        is = place_is.is;
        on_way = on_way_there c.problem c.marks way kept held own_constant he before x soon w hw place_is.at;
        best = best_there c.problem c.marks way kept held own_constant he before x soon w hw place_is.at place_is.is.no_later free;
      };
      later = λ b reached. none_beyond c.problem c.marks way kept held own_constant he before x soon b reached w hw place_is.at;
      turns = subst (λ (m : Mark). Turns c.problem way.row c.marks m w) (sym mark) (turns_there c.problem c.marks way kept held own_constant he before x soon w hw place_is.at);
    }
