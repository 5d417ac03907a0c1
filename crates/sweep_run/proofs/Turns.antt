-- A mark that is 0 at one constant and negative at the end is negative between; so its place is no earlier than
-- any at which no value is negative.
use Rattle.std.proofs.Common.{◌≡◌, ◌∙◌, ◌⊎◌, inl, inr, ℕ, zero, suc, ◌+◌, ◌<◌, Bool, true, false, List, ℤ, pos, ◌+ℤ◌, ◌-ℤ◌, ◌*ℤ◌, ◌≤ℤ◌, ◌<ℤ◌, sym, ap, subst, arith}
use Rattle.std.proofs.lemmas.List.Elements.{recursion_from_All}
use borrow.Author.Differences.{ints}
use Rattle.frac_core.specs.Fraction.{Fraction}
use Rattle.frac_core.proofs.Integers.{mul-zero_ℤ, mul_positive}
use Rattle.frac_core.proofs.Numbers.{as-natural, low-or-up, low-times}
use Rattle.problem_core.specs.declared.parts.Mark.{Mark}
use Rattle.problem_core.specs.Layout.{Problem}
use Rattle.problem_core.specs.Corners.{HasNegativeValue, IsCorner, IsIn, NoNegativeValue, Point, StandsAt, one_column, place}
use Rattle.corner_laws.proofs.MarkWritings.LowestForms.{marks_are_fixed}
use Rattle.corner_laws.proofs.WrittenValues.{contains_each}
use Rattle.corner_lines.specs.Shifts.{with_constant}
use Rattle.dual_run.proofs.Lows.{same_sign}
use Rattle.sweep_laws.specs.Fractions.{IsLess, IsNoMore}
use Rattle.sweep_laws.specs.Laws.{IsMix}
use Rattle.sweep_laws.specs.Stops.{IsZeroAt}
use Rattle.sweep_laws.proofs.Costs.{low-part, mixes-far, mixes-near}
use Rattle.sweep_laws.proofs.Farther.{inside-mark}
use Rattle.sweep_laws.proofs.Mixtures.{between_mixes, mix, mix-is, mix_stands}
use Rattle.sweep_run.specs.Ways.{IsNoLater}

-- ---- signs

below-part : (s : ℕ) (y x : ℤ) → 0 < s → pos 0 <ℤ y → x <ℤ pos 0 → ((pos s *ℤ y) *ℤ x) <ℤ pos 0
below-part s y x hs hy hx =
    let n = as-natural (pos s *ℤ y) (mul_positive s y hs hy) in
    subst (λ (k : ℤ). (k *ℤ x) <ℤ pos 0) (sym n.2) (low-times n.0 x n.1 hx)

weakly-low : (x : ℤ) → x <ℤ pos 0 → x ≤ℤ pos 0
weakly-low x h = omega (arith, ints, h)

second-low : (k c h d : ℤ) → c ≡ pos 0 → (h *ℤ d) <ℤ pos 0 → (k *ℤ c +ℤ h *ℤ d) <ℤ pos 0
second-low k c h d none low = let e : k *ℤ c ≡ pos 0 = ap (λ (z : ℤ). k *ℤ z) none ∙ mul-zero_ℤ k in omega (arith, ints, e, low)

first-low : (k c h d : ℤ) → d ≡ pos 0 → (k *ℤ c) <ℤ pos 0 → (k *ℤ c +ℤ h *ℤ d) <ℤ pos 0
first-low k c h d none low = let e : h *ℤ d ≡ pos 0 = ap (λ (z : ℤ). h *ℤ z) none ∙ mul-zero_ℤ h in omega (arith, ints, e, low)

low-sum : (a b : ℤ) → a <ℤ pos 0 → b ≤ℤ pos 0 → (a +ℤ b) <ℤ pos 0
low-sum a b h k = omega (arith, ints, h, k)

sum-low : (a b : ℤ) → a ≤ℤ pos 0 → b <ℤ pos 0 → (a +ℤ b) <ℤ pos 0
sum-low a b h k = omega (arith, ints, h, k)

both-low : (near far : ℕ) (x1 y1 xc yc : ℤ) → 0 < far + near → pos 0 <ℤ x1 → pos 0 <ℤ y1 → xc <ℤ pos 0 → yc <ℤ pos 0 → ((pos far *ℤ y1) *ℤ xc +ℤ (pos near *ℤ x1) *ℤ yc) <ℤ pos 0
both-low zero far x1 y1 xc yc some hx hy lx ly =
    low-sum ((pos far *ℤ y1) *ℤ xc) ((pos 0 *ℤ x1) *ℤ yc) (below-part far y1 xc (omega (arith, some)) hy lx) (low-part zero x1 yc hx (weakly-low yc ly))
both-low (suc near) far x1 y1 xc yc some hx hy lx ly =
    sum-low ((pos far *ℤ y1) *ℤ xc) ((pos (suc near) *ℤ x1) *ℤ yc) (low-part far y1 xc hy (weakly-low xc lx)) (below-part (suc near) x1 yc (omega arith) hx ly)

-- ---- between

module _ (p : Problem) (row : ℕ) (at : List Mark) (m : Mark) (a b w : Fraction) (ha : 0 < a.den) (hb : 0 < b.den) where
  -- 0 at the first, negative at the second, and w beyond the first
  pub low_far : IsLess a w → IsNoMore w b → IsZeroAt p row at m a → HasNegativeValue (with_constant row b p) at m → HasNegativeValue (with_constant row w p) at m
  low_far less more (x, hx, none) (y, hy, low) =
      let s = mixes-far a b w ha hb less more in
      let z : Point = mix s.near s.far s.mixes.some x y in
      let is : IsMix x y s.near s.far z = mix-is s.near s.far s.mixes.some x y in (
        z,
        mix_stands p row at a b w s.near s.far x y z ha hb s.mixes hx hy is,
        subst (λ (v : ℤ). v <ℤ pos 0) (sym (is.each (place m))) (second-low (pos s.far *ℤ y.num one_column) (x.num (place m)) (pos s.near *ℤ x.num one_column) (y.num (place m)) none (below-part s.near (x.num one_column) (y.num (place m)) s.near_above x.positive low)),
      )

  -- negative at the first, 0 at the second, and w before the second
  pub low_near : IsNoMore a w → IsLess w b → HasNegativeValue (with_constant row a p) at m → IsZeroAt p row at m b → HasNegativeValue (with_constant row w p) at m
  low_near more less (x, hx, low) (y, hy, none) =
      let s = mixes-near a b w ha hb more less in
      let z : Point = mix s.near s.far s.mixes.some x y in
      let is : IsMix x y s.near s.far z = mix-is s.near s.far s.mixes.some x y in (
        z,
        mix_stands p row at a b w s.near s.far x y z ha hb s.mixes hx hy is,
        subst (λ (v : ℤ). v <ℤ pos 0) (sym (is.each (place m))) (first-low (pos s.far *ℤ y.num one_column) (x.num (place m)) (pos s.near *ℤ x.num one_column) (y.num (place m)) none (below-part s.far (y.num one_column) (x.num (place m)) s.far_above y.positive low)),
      )

  -- negative at both
  pub low_between : 0 < w.den → IsNoMore a w → IsNoMore w b → HasNegativeValue (with_constant row a p) at m → HasNegativeValue (with_constant row b p) at m → HasNegativeValue (with_constant row w p) at m
  low_between hw first last (x, hx, low-x) (y, hy, low-y) =
      let s = between_mixes a b w ha hb hw first last in
      let z : Point = mix s.0 s.1 s.2.some x y in
      let is : IsMix x y s.0 s.1 z = mix-is s.0 s.1 s.2.some x y in (
        z,
        mix_stands p row at a b w s.0 s.1 x y z ha hb s.2 hx hy is,
        subst (λ (v : ℤ). v <ℤ pos 0) (sym (is.each (place m))) (both-low s.0 s.1 (x.num one_column) (y.num one_column) (x.num (place m)) (y.num (place m)) s.2.some x.positive y.positive low-x low-y),
      )

-- ---- the place

-- where no value is negative, no inside mark's is
pub never_low : (q : Problem) (at : List Mark) (m : Mark) → IsCorner q at → IsIn (place m) at → NoNegativeValue q at → HasNegativeValue q at m → ⊥
never_low q at m corner inside (x, stands, up) (y, there, low) =
    let x-low : x.num (place m) <ℤ pos 0 = same_sign (y.num (place m)) (x.num (place m)) (x.num one_column) (y.num one_column) x.positive y.positive (marks_are_fixed q at (place m) corner (inside-mark q at m corner inside) y x there stands) low in
    let x-up : pos 0 ≤ℤ x.num (place m) = contains_each (λ c. pos 0 ≤ℤ x.num c) at (place m) (recursion_from_All (λ k. pos 0 ≤ℤ x.num (place k)) at up) inside in
    absurd (omega (arith, ints, x-low, x-up))

-- nor is it 0
pub never_zero : (q : Problem) (at : List Mark) (m : Mark) → IsCorner q at → IsIn (place m) at → (x : Point) → StandsAt q at x → x.num (place m) ≡ pos 0 → HasNegativeValue q at m → ⊥
never_zero q at m corner inside x stands none (y, there, low) =
    let x-low : x.num (place m) <ℤ pos 0 = same_sign (y.num (place m)) (x.num (place m)) (x.num one_column) (y.num one_column) x.positive y.positive (marks_are_fixed q at (place m) corner (inside-mark q at m corner inside) y x there stands) low in
    absurd (omega (arith, ints, x-low, none))

later-or-less : (u v : ℤ) → (u ≤ℤ v) ⊎ (v <ℤ u)
later-or-less u v = elim (low-or-up (v -ℤ u)) [
  | inl low ↦ inr (omega (arith, ints, low))
  | inr up ↦ inl (omega (arith, ints, up))
]

-- a mark that is negative at the end is 0 no earlier than no value is negative
pub no_earlier : (p : Problem) (row : ℕ) (at : List Mark) (m : Mark) (up : Bool) (end before turn : Fraction) → 0 < end.den → 0 < turn.den → IsCorner (with_constant row before p) at → IsIn (place m) at → IsNoLater up before end → NoNegativeValue (with_constant row before p) at → IsZeroAt p row at m turn → HasNegativeValue (with_constant row end p) at m
    → IsNoLater up before turn
no_earlier p row at m true end before turn he ht corner inside to_end values none low =
    elim (later-or-less (before.num *ℤ pos turn.den) (turn.num *ℤ pos before.den)) [
      | inl fine ↦ fine
      | inr less ↦ absurd (never_low (with_constant row before p) at m corner inside values (low_far p row at m turn end before ht he less to_end none low))
    ]
no_earlier p row at m false end before turn he ht corner inside to_end values none low =
    elim (later-or-less (turn.num *ℤ pos before.den) (before.num *ℤ pos turn.den)) [
      | inl fine ↦ fine
      | inr less ↦ absurd (never_low (with_constant row before p) at m corner inside values (low_near p row at m end turn before he ht to_end less low none))
    ]
