-- A corner that is best with two constants has a right piece between them.
use Rattle.std.proofs.Common.{◌≡◌, ◌∙◌, ℕ, ◌+◌, ◌*◌, ◌<◌, inl, inr, List, [], ◌∷◌, map, ℤ, pos, negsuc, ◌+ℤ◌, ◌-ℤ◌, ◌*ℤ◌, nat_abs, ◌≤ℤ◌, refl, sym, ap, subst, arith, mul-pos, All}
use Rattle.std.specs.List.{AllByRecursion as Each}
use Rattle.std.proofs.lemmas.Bool.{cases_eq}
use Rattle.std.proofs.lemmas.List.Elements.{All-from_recursion, recursion_from_All}
use borrow.Author.Differences.{ints}
use Rattle.frac_core.specs.Fraction.{Fraction, IsKept, IsLowest}
use Rattle.frac_core.proofs.Lists.{each-from_map}
use Rattle.frac_core.proofs.Made.{same_fraction}
use Rattle.frac_core.proofs.Numbers.{as-natural, up-from, up-times}
use Rattle.frac_core.proofs.OneFraction.{one_value}
use lib.IntN.{*ℤ_comm}
use Rattle.problem_core.specs.declared.parts.Mark.{Mark}
use Rattle.problem_core.specs.declared.parts.Stay.{Stay}
use Rattle.problem_core.specs.Kept.{IsWhole}
use Rattle.problem_core.specs.Layout.{Gives, IsBest, Problem}
use Rattle.problem_core.specs.Corners.{Agree, IsCorner, IsIn, NoNegativeColumn, NoNegativeValue, Point, StandsAt, assignment_at, attr_column, one_column, place}
use Rattle.problem_core.specs.Numbers.{AreNumbersOf}
use Rattle.problem_core.specs.Levels.{CostsAbove}
use Rattle.problem_core.proofs.Corners.Ends.{abs_same}
use Rattle.problem_core.proofs.Forms.{each-both, each-impl}
use Rattle.problem_core.proofs.StayNumbers.{of_each, same_numbers}
use Rattle.corner_laws.proofs.MarkWritings.LowestForms.{marks_are_fixed}
use Rattle.corner_laws.proofs.PathEnds.BeginsUnique.{agree-both}
use Rattle.corner_laws.proofs.ZeroColumns.{all-marks}
use Rattle.corner_lines.specs.Shifts.{with_constant}
use Rattle.sweep_laws.specs.Fractions.{IsNoMore, difference}
use Rattle.sweep_laws.specs.Stretches.{AreAllValues, AreMovedTo, IsBestAt, IsRightPiece, Rates, moved_value, moved_values}
use Rattle.sweep_laws.specs.Laws.{CornerIsPiece, IsMix, Mixes}
use Rattle.sweep_laws.proofs.Costs.{IsEachCorner, none-between}
use Rattle.sweep_laws.proofs.EachCorner.{corner_at_each}
use Rattle.sweep_laws.proofs.Ends.{end-best, weighed-with}
use Rattle.sweep_laws.proofs.Farther.{inside-mark}
use Rattle.sweep_laws.proofs.Mixtures.{Places, less-by, mix, mix-is, mix_stands, places, up-mixed}
use Rattle.sweep_laws.proofs.PieceNumbers.{moved-there, rate_den, rate_num, reach-whole, step-is, still-moved, still-reach, whole-way}
use Rattle.sweep_laws.proofs.Ring.{as-count, mixes-between}
use Rattle.sweep_laws.proofs.SeenAlike.{columns_at_each}

abbrev Value : Type 0
Value = ℕ × Fraction

-- the value is the point's
abbrev IsAt : Point → Value → Type 0
IsAt x v = x.num (attr_column v.0) *ℤ pos v.1.den ≡ v.1.num *ℤ x.num one_column

given : (x : Point) (values : List Value) → Gives values (assignment_at x) → Each (IsAt x) values
given x values h =
    each-impl (λ v. x.num (attr_column v.0) *ℤ pos v.1.den ≡ v.1.num *ℤ pos (nat_abs (x.num one_column))) (IsAt x) values
    (λ v e. e ∙ ap (λ (z : ℤ). v.1.num *ℤ z) (abs_same (x.num one_column) x.positive)) (recursion_from_All _ values h)

giving : (x : Point) (values : List Value) → Each (IsAt x) values → Gives values (assignment_at x)
giving x values h =
    All-from_recursion (λ v. x.num (attr_column v.0) *ℤ pos v.1.den ≡ v.1.num *ℤ pos (nat_abs (x.num one_column))) values
    (each-impl (IsAt x) (λ v. x.num (attr_column v.0) *ℤ pos v.1.den ≡ v.1.num *ℤ pos (nat_abs (x.num one_column))) values
    (λ v e. e ∙ ap (λ (z : ℤ). v.1.num *ℤ z) (sym (abs_same (x.num one_column) x.positive))) h)

-- ---- a piece from a to b, which is above it

abbrev rate_of : ℕ → ℕ → ℕ → Value → Value → Value
rate_of da db D v u = (v.0, record { num = rate_num v.1.num v.1.den u.1.num u.1.den da db; den = rate_den v.1.den u.1.den D })

abbrev rates_of : ℕ → ℕ → ℕ → List Value → List Value → Rates
rates_of da db D [] us = []
rates_of da db D (v ∷ vs) [] = []
rates_of da db D (v ∷ vs) (u ∷ us) = rate_of da db D v u ∷ rates_of da db D vs us

abbrev IsSome : Value → Type 0
IsSome v = 0 < v.1.den

rates-some : (da db D : ℕ) (vs us : List Value) → 0 < D → Each IsSome vs → Each IsSome us → Each IsSome (rates_of da db D vs us)
rates-some da db D [] us some hv hu = tt
rates-some da db D (v ∷ vs) [] some hv hu = tt
rates-some da db D (v ∷ vs) (u ∷ us) some hv hu = (mul-pos (mul-pos hv.0 hu.0) some, rates-some da db D vs us some hv.1 hu.1)

module _ (a b : Fraction) (D : ℕ) (above : b.num *ℤ pos a.den ≡ a.num *ℤ pos b.den +ℤ pos D) where
  reached : (vs us : List Value) → map (λ (v : Value). v.0) vs ≡ map (λ (v : Value). v.0) us → AreMovedTo (difference b a) vs (rates_of a.den b.den D vs us) us
  reached [] [] e = tt
  reached [] (u ∷ us) e = cc
  reached (v ∷ vs) [] e = cc
  reached (v ∷ vs) (u ∷ us) e =
      let head : v.0 ≡ u.0 = cc in
      let tail : map (λ (v : Value). v.0) vs ≡ map (λ (v : Value). v.0) us = cc in (
        (
          head,
          refl,
          reach-whole v.1.num u.1.num v.1.den u.1.den a.den b.den D
              ∙ ap (λ (z : ℤ). (v.1.num *ℤ (pos (rate_den v.1.den u.1.den D) *ℤ pos (b.den * a.den)) +ℤ rate_num v.1.num v.1.den u.1.num u.1.den a.den b.den *ℤ (z *ℤ pos v.1.den)) *ℤ pos u.1.den) (sym (step-is b.num a.num b.den a.den D above)),
        ),
        reached vs us tail,
      )

  module _ (w : Fraction) (s : Places a b w) (some : 0 < s.below * a.den + s.above * b.den) (x y : Point) where
    abbrev between : Point
    between = mix (s.above * b.den) (s.below * a.den) some x y

    way : w.den * D ≡ s.below * a.den + s.above * b.den
    way = whole-way a.den b.den w.den D s.above s.below a.num b.num w.num above s.from_a s.to_b

    one-there : (v u : Value) → v.0 ≡ u.0 → IsAt x v → IsAt y u → IsAt between (moved_value (difference w a) v (rate_of a.den b.den D v u))
    unfolding mix
    one-there v u e hx hy =
        moved-there v.1.den u.1.den a.den b.den w.den D s.above (s.below * a.den) v.1.num u.1.num (x.num (attr_column v.0)) (y.num (attr_column v.0)) (x.num one_column) (y.num one_column) (w.num *ℤ (pos 1 *ℤ pos a.den) +ℤ negsuc 0 *ℤ (a.num *ℤ pos w.den))
        way (step-is w.num a.num w.den a.den s.above s.from_a) hx
        (subst (λ (n : ℕ). y.num (attr_column n) *ℤ pos u.1.den ≡ u.1.num *ℤ y.num one_column) (sym e) hy)

    all-there : (vs us : List Value) → map (λ (v : Value). v.0) vs ≡ map (λ (v : Value). v.0) us → Each (IsAt x) vs → Each (IsAt y) us → Each (IsAt between) (moved_values (difference w a) vs (rates_of a.den b.den D vs us))
    all-there [] [] e hx hy = tt
    all-there [] (u ∷ us) e hx hy = cc
    all-there (v ∷ vs) [] e hx hy = cc
    all-there (v ∷ vs) (u ∷ us) e hx hy =
        let head : v.0 ≡ u.0 = cc in
        let tail : map (λ (v : Value). v.0) vs ≡ map (λ (v : Value). v.0) us = cc in
        (one-there v u head hx.0 hy.0, all-there vs us tail hx.1 hy.1)

-- ---- a piece of a single constant

abbrev still : Value → Value
still v = (v.0, record { num = pos 0; den = 1 })

-- the two fractions are one value
abbrev IsSame : Value → Value → Type 0
IsSame v u = (v.0 ≡ u.0) × (v.1.num *ℤ pos u.1.den ≡ u.1.num *ℤ pos v.1.den)

abbrev AreSame : List Value → List Value → Type 0
AreSame [] [] = Unit {0}
AreSame [] (u ∷ us) = ⊥
AreSame (v ∷ vs) [] = ⊥
AreSame (v ∷ vs) (u ∷ us) = IsSame v u × AreSame vs us

still-some : (vs : List Value) → Each IsSome (map still vs)
still-some [] = tt
still-some (v ∷ vs) = (omega arith, still-some vs)

still-reached : (by : Fraction) (vs us : List Value) → AreSame vs us → AreMovedTo by vs (map still vs) us
still-reached by [] [] h = tt
still-reached by [] (u ∷ us) h = absurd h
still-reached by (v ∷ vs) [] h = absurd h
still-reached by (v ∷ vs) (u ∷ us) h = ((h.0.0, refl, still-reach v.1.num u.1.num by.num v.1.den u.1.den by.den h.0.1), still-reached by vs us h.1)

still-there : (by : Fraction) (x : Point) (vs : List Value) → Each (IsAt x) vs → Each (IsAt x) (moved_values by vs (map still vs))
still-there by x [] h = tt
still-there by x (v ∷ vs) h = (still-moved v.1.den by.den v.1.num by.num (x.num (attr_column v.0)) (x.num one_column) h.0, still-there by x vs h.1)

-- the point's own fractions of a value
same-value : (x y : Point) (v u : Value) → v.0 ≡ u.0 → Agree (attr_column v.0) x y → IsAt x v → IsAt y u → IsSame v u
same-value x y v u e agree hx hy =
    let d = as-natural (x.num one_column) x.positive in
    let c = as-natural (y.num one_column) y.positive in (
      e,
      one_value v.1 u.1 (x.num (attr_column v.0)) (y.num (attr_column v.0)) d.0 c.0 d.1 c.1 (hx ∙ ap (λ (z : ℤ). v.1.num *ℤ z) d.2)
          (subst (λ (n : ℕ). y.num (attr_column n) *ℤ pos u.1.den ≡ u.1.num *ℤ y.num one_column) (sym e) hy ∙ ap (λ (z : ℤ). u.1.num *ℤ z) c.2)
          (ap (λ (z : ℤ). x.num (attr_column v.0) *ℤ z) (sym c.2) ∙ agree ∙ ap (λ (z : ℤ). y.num (attr_column v.0) *ℤ z) d.2),
    )

same-values : (x y : Point) (vs us : List Value) → map (λ (v : Value). v.0) vs ≡ map (λ (v : Value). v.0) us → Each (λ v. Agree (attr_column v.0) x y) vs → Each (IsAt x) vs → Each (IsAt y) us → AreSame vs us
same-values x y [] [] e agree hx hy = tt
same-values x y [] (u ∷ us) e agree hx hy = cc
same-values x y (v ∷ vs) [] e agree hx hy = cc
same-values x y (v ∷ vs) (u ∷ us) e agree hx hy =
    let head : v.0 ≡ u.0 = cc in
    let tail : map (λ (v : Value). v.0) vs ≡ map (λ (v : Value). v.0) us = cc in
    (same-value x y v u head agree.0 hx.0 hy.0, same-values x y vs us tail agree.1 hx.1 hy.1)

-- the points of a corner agree at the attributes of the stays
agreed : (q : Problem) (at : List Mark) (x y : Point) → IsCorner q at → StandsAt q at x → StandsAt q at y → Each (λ (s : Stay). Agree (attr_column s.attr) x y) q.stays
agreed q at x y corner hx hy =
    each-impl (λ (s : Stay). Agree (attr_column s.attr) corner.point x × Agree (attr_column s.attr) corner.point y) (λ (s : Stay). Agree (attr_column s.attr) x y) q.stays
    (λ s h. agree-both (x.num (attr_column s.attr)) (y.num (attr_column s.attr)) (corner.point.num (attr_column s.attr)) (x.num one_column) (y.num one_column) (corner.point.num one_column) corner.point.positive h.0 h.1)
    (each-both (λ (s : Stay). Agree (attr_column s.attr) corner.point x) (λ (s : Stay). Agree (attr_column s.attr) corner.point y) q.stays
    (recursion_from_All (λ (s : Stay). Agree (attr_column s.attr) corner.point x) q.stays (corner.attrs_fixed x hx)) (recursion_from_All (λ (s : Stay). Agree (attr_column s.attr) corner.point y) q.stays (corner.attrs_fixed y hy)))

agreed-values : (q : Problem) (at : List Mark) (x y : Point) (vs : List Value) → AreNumbersOf q.stays (map (λ (v : Value). v.0) vs) → IsCorner q at → StandsAt q at x → StandsAt q at y → Each (λ (v : Value). Agree (attr_column v.0) x y) vs
agreed-values q at x y vs e corner hx hy =
    each-from_map (λ (n : ℕ). Agree (attr_column n) x y) (λ (v : Value). v.0) vs
    (recursion_from_All (λ (n : ℕ). Agree (attr_column n) x y) (map (λ (v : Value). v.0) vs)
    (of_each q.stays (λ (n : ℕ). Agree (attr_column n) x y) (map (λ (v : Value). v.0) vs) e
    (All-from_recursion (λ (s : Stay). Agree (attr_column s.attr) x y) q.stays (agreed q at x y corner hx hy))))

-- ---- best at each

no-more-same : (u v : ℤ) → u ≤ℤ v → v ≤ℤ u → u ≡ v
no-more-same u v h k = omega (arith, ints, h, k)

not-below-zero : (u v : ℤ) → u ≤ℤ v → pos 0 ≤ℤ (v -ℤ u)
not-below-zero u v h = omega (arith, ints, h)

no-way : (u : ℤ) (n : ℕ) → n ≡ 0 → u +ℤ pos n ≡ u
no-way u n e = omega (arith, ints, e)

-- each point of a corner has no negative value if one has none
up-there : (q : Problem) (at : List Mark) (x : Point) → IsCorner q at → StandsAt q at x → NoNegativeValue q at → All (λ m. pos 0 ≤ℤ x.num (place m)) at
up-there q at x corner hx (y, hy, up) =
    All-from_recursion (λ m. pos 0 ≤ℤ x.num (place m)) at (each-impl (λ m. IsIn (place m) at × (pos 0 ≤ℤ y.num (place m))) (λ m. pos 0 ≤ℤ x.num (place m)) at (λ m h. one m h.0 h.1) (each-both (λ m. IsIn (place m) at) (λ m. pos 0 ≤ℤ y.num (place m)) at (all-marks at) (recursion_from_All (λ m. pos 0 ≤ℤ y.num (place m)) at up)))
  where
    one : (m : Mark) → IsIn (place m) at → pos 0 ≤ℤ y.num (place m) → pos 0 ≤ℤ x.num (place m)
    one m inside h =
        let d = as-natural (y.num one_column) y.positive in
        up-from d.0 (x.num (place m)) d.1
        (subst (λ (z : ℤ). pos 0 ≤ℤ z)
        (sym (marks_are_fixed q at (place m) corner (inside-mark q at m corner inside) x y hx hy) ∙ ap (λ (z : ℤ). x.num (place m) *ℤ z) d.2 ∙ *ℤ_comm (x.num (place m)) (pos d.0))
        (up-times (y.num (place m)) (x.num one_column) h x.positive))

kept-some : (values : List Value) → All (λ v. IsKept v.1) values → Each IsSome values
kept-some values h = each-impl (λ v. IsKept v.1) IsSome values (λ v k. k.lowest.above) (recursion_from_All (λ v. IsKept v.1) values h)

module _ (p : Problem) (row : ℕ) (at : List Mark) (a b : Fraction) (x y : Point) (whole : IsWhole p) (low : IsLowest a) (high : IsLowest b) (corner : IsCorner (with_constant row a p) at) (columns : NoNegativeColumn (with_constant row a p) at) (hx : StandsAt (with_constant row a p) at x) (hy : StandsAt (with_constant row b p) at y)
    (ux : NoNegativeValue (with_constant row a p) at) (uy : NoNegativeValue (with_constant row b p) at) (cx : CostsAbove (with_constant row a p) at 0 → ⊥) (cy : CostsAbove (with_constant row b p) at 0 → ⊥) where
  each-corner : IsEachCorner p row at
  each-corner c hc = corner_at_each p row at a c whole low.above hc corner

  -- a point that mixes the two is best
  mixed-best : (w : Fraction) (near far : ℕ) (z : Point) → 0 < w.den → IsNoMore a w → IsNoMore w b → Mixes a b w near far → IsMix x y near far z → IsBest (with_constant row w p) (assignment_at z)
  mixed-best w near far z hw from to mixes is =
      let stands = mix_stands p row at a b w near far x y z low.above high.above mixes hx hy is in
      let first = up-there (with_constant row a p) at x (each-corner a low.above) hx ux in
      let last = up-there (with_constant row b p) at y (each-corner b high.above) hy uy in
      let up : All (λ m. pos 0 ≤ℤ z.num (place m)) at =
      All-from_recursion (λ m. pos 0 ≤ℤ z.num (place m)) at
      (each-impl (λ m. (pos 0 ≤ℤ x.num (place m)) × (pos 0 ≤ℤ y.num (place m))) (λ m. pos 0 ≤ℤ z.num (place m)) at (λ m h. up-mixed x y z near far (place m) is h.0 h.1)
      (each-both (λ m. pos 0 ≤ℤ x.num (place m)) (λ m. pos 0 ≤ℤ y.num (place m)) at (recursion_from_All (λ m. pos 0 ≤ℤ x.num (place m)) at first) (recursion_from_All (λ m. pos 0 ≤ℤ y.num (place m)) at last))) in
      end-best (with_constant row w p) at z (weighed-with p row w whole hw) stands up (columns_at_each p row at a w columns)
      (none-between p row at a b w each-corner low.above high.above hw from to cx cy)

  -- of one constant
  still-best : a ≡ b → (lows : List Value) → Gives lows (assignment_at x) → (w : Fraction) → IsLowest w → IsNoMore a w → IsNoMore w b → IsBestAt p row a lows (map still lows) w
  still-best same lows gives w is from to =
      let back : IsNoMore w a = subst (λ (c : Fraction). IsNoMore w c) (sym same) to in
      let e : w ≡ a = same_fraction w a is low (no-more-same (w.num *ℤ pos a.den) (a.num *ℤ pos w.den) back from) in (
        assignment_at x,
        subst (λ (c : Fraction). IsBest (with_constant row c p) (assignment_at x)) (sym e)
            (end-best (with_constant row a p) at x (weighed-with p row a whole low.above) hx (up-there (with_constant row a p) at x (each-corner a low.above) hx ux) columns cx),
        giving x (moved_values (difference w a) lows (map still lows)) (still-there (difference w a) x lows (given x lows gives)),
      )

  apart-best : (D : ℕ) → b.num *ℤ pos a.den ≡ a.num *ℤ pos b.den +ℤ pos D → 0 < D → (lows highs : List Value) → map (λ (v : Value). v.0) lows ≡ map (λ (v : Value). v.0) highs → Gives lows (assignment_at x) → Gives highs (assignment_at y) → (w : Fraction) → IsLowest w → IsNoMore a w → IsNoMore w b
      → IsBestAt p row a lows (rates_of a.den b.den D lows highs) w
  apart-best D above some lows highs e gx gy w is from to =
      let s = places a b w from to in
      let far : 0 < s.below * a.den + s.above * b.den = subst (λ (n : ℕ). 0 < n) (whole-way a.den b.den w.den D s.above s.below a.num b.num w.num above s.from_a s.to_b) (mul-pos is.above some) in
      let z : Point = mix (s.above * b.den) (s.below * a.den) far x y in (
        assignment_at z,
        mixed-best w (s.above * b.den) (s.below * a.den) z is.above from to (record { some = far; is = mixes-between a.den b.den w.den s.above s.below a.num b.num w.num s.from_a s.to_b }) (mix-is (s.above * b.den) (s.below * a.den) far x y),
        giving z (moved_values (difference w a) lows (rates_of a.den b.den D lows highs)) (all-there a b D above w s far x y lows highs e (given x lows gx) (given y highs gy)),
      )

  piece : IsNoMore a b → (lows highs : List Value) → AreAllValues p lows → Gives lows (assignment_at x) → AreAllValues p highs → Gives highs (assignment_at y) → IsRightPiece p row a b lows highs
  piece rises lows highs al gx ah gy =
      let d = as-count (b.num *ℤ pos a.den -ℤ a.num *ℤ pos b.den) (not-below-zero (a.num *ℤ pos b.den) (b.num *ℤ pos a.den) rises) in
      let above : b.num *ℤ pos a.den ≡ a.num *ℤ pos b.den +ℤ pos d.0 = less-by (b.num *ℤ pos a.den) (a.num *ℤ pos b.den) d.0 d.1 in
      let e : map (λ (v : Value). v.0) lows ≡ map (λ (v : Value). v.0) highs = same_numbers p.stays (map (λ (v : Value). v.0) lows) (map (λ (v : Value). v.0) highs) al.attributes ah.attributes in
      elim (cases_eq d.0 0) [
        | inl none ↦
            let same : a ≡ b = same_fraction a b low high (sym (above ∙ no-way (a.num *ℤ pos b.den) d.0 none)) in
            let there : StandsAt (with_constant row a p) at y = subst (λ (c : Fraction). StandsAt (with_constant row c p) at y) (sym same) hy in
            record {
              upwards = record { first = low; last = high; rises = rises };
              are_low = al;
              are_high = ah;
              rates = map still lows;
              are_fractions = All-from_recursion IsSome (map still lows) (still-some lows);
              ends = still-reached (difference b a) lows highs
                  (same-values x y lows highs e (agreed-values (with_constant row a p) at x y lows al.attributes (each-corner a low.above) hx there) (given x lows gx) (given y highs gy));
              each = λ w is from to. still-best same lows gx w is from to;
            }
        | inr some ↦
            let more : 0 < d.0 = omega (arith, some) in
            record {
              upwards = record { first = low; last = high; rises = rises };
              are_low = al;
              are_high = ah;
              rates = rates_of a.den b.den d.0 lows highs;
              are_fractions = All-from_recursion IsSome (rates_of a.den b.den d.0 lows highs) (rates-some a.den b.den d.0 lows highs more (kept-some lows al.kept) (kept-some highs ah.kept));
              ends = reached a b d.0 above lows highs e;
              each = λ w is from to. apart-best d.0 above more lows highs e gx gy w is from to;
            }
      ]

pub corner_is_piece : CornerIsPiece
corner_is_piece p row at a b x y lows highs whole low high rises corner columns hx hy ux uy cx cy al gx ah gy = piece p row at a b x y whole low high corner columns hx hy ux uy cx cy rises lows highs al gx ah gy
