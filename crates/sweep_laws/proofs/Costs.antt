-- What the required rows cost with a constant between two, and beyond.
use Rattle.std.proofs.Common.{◌≡◌, ◌∙◌, ℕ, ◌+◌, ◌*◌, ◌<◌, inl, inr, List, ℤ, pos, ◌+ℤ◌, ◌*ℤ◌, neg_ℤ, ◌≤ℤ◌, ◌<ℤ◌, sym, ap, subst, arith, mul-pos}
use lib.IntN.{*ℤ_comm}
use borrow.Author.Differences.{ints}
use Rattle.frac_core.specs.Fraction.{Fraction}
use Rattle.frac_core.proofs.Integers.{mul-zero_ℤ, mul_positive, positive_from}
use Rattle.frac_core.proofs.Numbers.{as-natural, mul-neg, product-up, up-or-low}
use Rattle.problem_core.specs.declared.parts.Mark.{Mark}
use Rattle.problem_core.specs.Layout.{Problem}
use Rattle.problem_core.specs.Corners.{IsCorner, Point, StandsAt, one_column}
use Rattle.problem_core.specs.Levels.{CostsAbove, cost_at}
use Rattle.corner_laws.proofs.LevelCosts.LevelExists.{cost_fixed}
use Rattle.corner_laws.proofs.PathEnds.Rises.{cost_linear}
use Rattle.corner_lines.specs.Shifts.{with_constant}
use Rattle.sweep_laws.specs.Fractions.{IsLess, IsNoMore}
use Rattle.sweep_laws.specs.Laws.{CostsBetween, CostsBeyond, Mixes}
use Rattle.sweep_laws.proofs.EachCorner.{corner_at_each}
use Rattle.sweep_laws.proofs.Mixtures.{apart-mixes, between_mixes, mix, mix-is, mix_stands, places, up-part}
use Rattle.sweep_laws.proofs.SeenAlike.{cost-own, cost-with}

-- ---- signs

pub not-above : (c : ℤ) → (pos 0 <ℤ c → ⊥) → c ≤ℤ pos 0
not-above c h = elim (up-or-low c) [ inl up ↦ absurd (h up) | inr low ↦ low ]

pub positive-left : (a b : ℤ) → pos 0 <ℤ b → pos 0 <ℤ (a *ℤ b) → pos 0 <ℤ a
positive-left a b hb h =
    let n = as-natural b hb in
    positive_from n.0 a (subst (λ (z : ℤ). pos 0 <ℤ z) (ap (λ (z : ℤ). a *ℤ z) n.2 ∙ *ℤ_comm a (pos n.0)) h)

opposite-up : (z : ℤ) → z ≤ℤ pos 0 → pos 0 ≤ℤ neg_ℤ z
opposite-up z h = omega (arith, ints, h)

opposite-low : (z : ℤ) → pos 0 ≤ℤ neg_ℤ z → z ≤ℤ pos 0
opposite-low z h = omega (arith, ints, h)

pub low-part : (s : ℕ) (y x : ℤ) → pos 0 <ℤ y → x ≤ℤ pos 0 → ((pos s *ℤ y) *ℤ x) ≤ℤ pos 0
low-part s y x hy hx = opposite-low ((pos s *ℤ y) *ℤ x) (subst (λ (z : ℤ). pos 0 ≤ℤ z) (mul-neg (pos s *ℤ y) x) (up-part s y (neg_ℤ x) hy (opposite-up x hx)))

pub above-part : (s : ℕ) (y x : ℤ) → 0 < s → pos 0 <ℤ y → pos 0 <ℤ x → pos 0 <ℤ ((pos s *ℤ y) *ℤ x)
above-part s y x hs hy hx = product-up (pos s *ℤ y) x (mul_positive s y hs hy) hx

low-both : (a b : ℤ) → a ≤ℤ pos 0 → b ≤ℤ pos 0 → (a +ℤ b) ≤ℤ pos 0
low-both a b h k = omega (arith, ints, h, k)

not-both : (z : ℤ) → pos 0 <ℤ z → z ≤ℤ pos 0 → ⊥
not-both z h k = omega (arith, ints, h, k)

-- ---- the cost of a mix

pub mix-cost : (p : Problem) (level near far : ℕ) (some : 0 < far + near) (x y : Point) → cost_at p level (mix near far some x y).num ≡ (pos far *ℤ y.num one_column) *ℤ cost_at p level x.num +ℤ (pos near *ℤ x.num one_column) *ℤ cost_at p level y.num
unfolding mix
mix-cost p level near far some x y = cost_linear p level (pos far *ℤ y.num one_column) (pos near *ℤ x.num one_column) x.num y.num

-- where a point at the corner costs something so does each
pub costs-there : (q : Problem) (at : List Mark) (x y : Point) → IsCorner q at → StandsAt q at x → StandsAt q at y → pos 0 <ℤ cost_at q 0 x.num → pos 0 <ℤ cost_at q 0 y.num
costs-there q at x y corner hx hy up =
    positive-left (cost_at q 0 y.num) (x.num one_column) x.positive
    (subst (λ (z : ℤ). pos 0 <ℤ z) (cost_fixed q at 0 corner x y hx hy) (product-up (cost_at q 0 x.num) (y.num one_column) up y.positive))

-- the marks are a corner with each constant
abbrev pub IsEachCorner : Problem → ℕ → List Mark → Type 0
IsEachCorner p row at = (c : Fraction) → 0 < c.den → IsCorner (with_constant row c p) at

low-there : (p : Problem) (row : ℕ) (at : List Mark) (a w : Fraction) (x : Point) → StandsAt (with_constant row a p) at x → (CostsAbove (with_constant row a p) at 0 → ⊥) → cost_at (with_constant row w p) 0 x.num ≤ℤ pos 0
low-there p row at a w x stands none =
    not-above (cost_at (with_constant row w p) 0 x.num) (λ up. none (x, stands, subst (λ (z : ℤ). pos 0 <ℤ z) (cost-with p row 0 w a x.num) up))

pub none-between : (p : Problem) (row : ℕ) (at : List Mark) (a b w : Fraction) → IsEachCorner p row at → 0 < a.den → 0 < b.den → 0 < w.den → IsNoMore a w → IsNoMore w b → (CostsAbove (with_constant row a p) at 0 → ⊥) → (CostsAbove (with_constant row b p) at 0 → ⊥) → CostsAbove (with_constant row w p) at 0 → ⊥
none-between p row at a b w corner ha hb hw low up none-a none-b (t, ht, above) =
    let m = between_mixes a b w ha hb hw low up in
    let first = corner a ha in
    let last = corner b hb in
    let z : Point = mix m.0 m.1 m.2.some first.point last.point in
    let stands = mix_stands p row at a b w m.0 m.1 first.point last.point z ha hb m.2 first.stands last.stands (mix-is m.0 m.1 m.2.some first.point last.point) in
    not-both (cost_at (with_constant row w p) 0 z.num) (costs-there (with_constant row w p) at t z (corner w hw) ht stands above)
    (subst (λ (e : ℤ). e ≤ℤ pos 0) (sym (mix-cost (with_constant row w p) 0 m.0 m.1 m.2.some first.point last.point))
    (low-both _ _
    (low-part m.1 (last.point.num one_column) (cost_at (with_constant row w p) 0 first.point.num) last.point.positive (low-there p row at a w first.point first.stands none-a))
    (low-part m.0 (first.point.num one_column) (cost_at (with_constant row w p) 0 last.point.num) first.point.positive (low-there p row at b w last.point last.stands none-b))))

pub costs_between : CostsBetween
costs_between p row at a b w whole ha hb hw low up corner none-a none-b = none-between p row at a b w (λ c hc. corner_at_each p row at a c whole ha hc corner) ha hb hw low up none-a none-b

-- ---- beyond

strictly : (x y : ℤ) (n : ℕ) → x ≡ y +ℤ pos n → y <ℤ x → 0 < n
strictly x y n e h = omega (arith, ints, e, h)

weakly : (x y : ℤ) → x <ℤ y → x ≤ℤ y
weakly x y h = omega (arith, ints, h)

-- w above a and no greater than b
pub record MixesFar (a b w : Fraction) : Type 0 where
  pub near : ℕ
  pub far : ℕ
  pub mixes : Mixes a b w near far
  pub near_above : 0 < near

pub mixes-far : (a b w : Fraction) → 0 < a.den → 0 < b.den → IsLess a w → IsNoMore w b → MixesFar a b w
mixes-far a b w ha hb low up =
    let s = places a b w (weakly _ _ low) up in
    let some : 0 < s.above = strictly _ _ s.above s.from_a low in
    record { near = s.above * b.den; far = s.below * a.den; mixes = apart-mixes a b w s ha hb (omega (arith, some)); near_above = mul-pos some hb }

-- w below b and no less than a
pub record MixesNear (a b w : Fraction) : Type 0 where
  pub near : ℕ
  pub far : ℕ
  pub mixes : Mixes a b w near far
  pub far_above : 0 < far

pub mixes-near : (a b w : Fraction) → 0 < a.den → 0 < b.den → IsNoMore a w → IsLess w b → MixesNear a b w
mixes-near a b w ha hb low up =
    let s = places a b w low (weakly _ _ up) in
    let some : 0 < s.below = strictly _ _ s.below s.to_b up in
    record { near = s.above * b.den; far = s.below * a.den; mixes = apart-mixes a b w s ha hb (omega (arith, some)); far_above = mul-pos some ha }

second-alone : (k c h d : ℤ) → c ≡ pos 0 → pos 0 <ℤ (h *ℤ d) → pos 0 <ℤ (k *ℤ c +ℤ h *ℤ d)
second-alone k c h d none up =
    let e : k *ℤ c ≡ pos 0 = ap (λ (z : ℤ). k *ℤ z) none ∙ mul-zero_ℤ k in
    omega (arith, ints, e, up)

first-alone : (k c h d : ℤ) → d ≡ pos 0 → pos 0 <ℤ (k *ℤ c) → pos 0 <ℤ (k *ℤ c +ℤ h *ℤ d)
first-alone k c h d none up =
    let e : h *ℤ d ≡ pos 0 = ap (λ (z : ℤ). h *ℤ z) none ∙ mul-zero_ℤ h in
    omega (arith, ints, e, up)

own-cost : (p : Problem) (row : ℕ) (b : Fraction) (n : ℕ → ℤ) → cost_at (with_constant row b p) 0 n ≡ cost_at p 0 n
own-cost p row b n = cost-own p row 0 b n

pub costs_beyond : CostsBeyond
costs_beyond p row at a b w ha hb hw (inl (low, up)) x hx none (y, hy, above) =
    let m = mixes-far a b w ha hb low up in
    let z : Point = mix m.near m.far m.mixes.some x y in (
      z,
      mix_stands p row at a b w m.near m.far x y z ha hb m.mixes hx hy (mix-is m.near m.far m.mixes.some x y),
      subst (λ (e : ℤ). pos 0 <ℤ e) (sym (mix-cost (with_constant row w p) 0 m.near m.far m.mixes.some x y))
          (second-alone (pos m.far *ℤ y.num one_column) (cost_at (with_constant row w p) 0 x.num) (pos m.near *ℤ x.num one_column) (cost_at (with_constant row w p) 0 y.num) (own-cost p row w x.num ∙ none)
          (above-part m.near (x.num one_column) (cost_at (with_constant row w p) 0 y.num) m.near_above x.positive (subst (λ (e : ℤ). pos 0 <ℤ e) (cost-with p row 0 b w y.num) above))),
    )
costs_beyond p row at a b w ha hb hw (inr (low, up)) x hx none (y, hy, above) =
    let m = mixes-near b a w hb ha low up in
    let z : Point = mix m.near m.far m.mixes.some y x in (
      z,
      mix_stands p row at b a w m.near m.far y x z hb ha m.mixes hy hx (mix-is m.near m.far m.mixes.some y x),
      subst (λ (e : ℤ). pos 0 <ℤ e) (sym (mix-cost (with_constant row w p) 0 m.near m.far m.mixes.some y x))
          (first-alone (pos m.far *ℤ x.num one_column) (cost_at (with_constant row w p) 0 y.num) (pos m.near *ℤ y.num one_column) (cost_at (with_constant row w p) 0 x.num) (own-cost p row w x.num ∙ none)
          (above-part m.far (x.num one_column) (cost_at (with_constant row w p) 0 y.num) m.far_above x.positive (subst (λ (e : ℤ). pos 0 <ℤ e) (cost-with p row 0 b w y.num) above))),
    )
