-- A path that is lawful with the end's constant is with each beyond those at which its marks left.
use Rattle.std.proofs.Common.{◌≡◌, ◌∙◌, ℕ, ◌<◌, ◌⊎◌, inl, inr, List, [], ◌∷◌, map, ℤ, pos, ◌+ℤ◌, ◌*ℤ◌, ◌≤ℤ◌, ◌<ℤ◌, sym, ap, subst, arith, Contains}
use Rattle.std.proofs.lemmas.List.Elements.{recursion_from_All}
use lib.IntN.{*ℤ_comm}
use borrow.Author.Differences.{ints}
use Rattle.frac_core.specs.Fraction.{Fraction}
use Rattle.frac_core.proofs.Integers.{mul_positive}
use Rattle.frac_core.proofs.Numbers.{as-natural, low-times, up-times}
use Rattle.problem_core.specs.declared.parts.Mark.{Mark}
use Rattle.problem_core.specs.Layout.{Problem, lines}
use Rattle.problem_core.specs.Corners.{HasNegativeValue, IsCorner, IsExchange, IsIn, NoNegativeValue, exchanged, marks_of, one_column, place}
use Rattle.problem_core.specs.Levels.{CostsAbove}
use Rattle.corner_laws.specs.Laws.{IsMarkAt}
use Rattle.corner_laws.proofs.MarkWritings.LowestForms.{marks_are_fixed}
use Rattle.corner_laws.proofs.WrittenValues.{contains_each}
use Rattle.corner_lines.specs.Shifts.{with_constant}
use Rattle.sweep_laws.specs.Fractions.{IsLess, IsNoMore}
use Rattle.sweep_laws.specs.Laws.{HasPositiveValue, PathFarther}
use Rattle.sweep_laws.proofs.Costs.{IsEachCorner, low-part, mixes-far, mixes-near, none-between, not-above}
use Rattle.sweep_laws.proofs.EachCorner.{corner_at_each}
use Rattle.sweep_laws.proofs.Mixtures.{mix, mix-is, mix_stands}
use Rattle.sweep_laws.proofs.SeenAlike.{columns_at_each}

-- ---- signs

below-part : (s : ℕ) (y x : ℤ) → 0 < s → pos 0 <ℤ y → x <ℤ pos 0 → ((pos s *ℤ y) *ℤ x) <ℤ pos 0
below-part s y x hs hy hx =
    let n = as-natural (pos s *ℤ y) (mul_positive s y hs hy) in
    subst (λ (k : ℤ). (k *ℤ x) <ℤ pos 0) (sym n.2) (low-times n.0 x n.1 hx)

low-first : (a b : ℤ) → a <ℤ pos 0 → b ≤ℤ pos 0 → (a +ℤ b) <ℤ pos 0
low-first a b h k = omega (arith, ints, h, k)

low-last : (a b : ℤ) → a ≤ℤ pos 0 → b <ℤ pos 0 → (a +ℤ b) <ℤ pos 0
low-last a b h k = omega (arith, ints, h, k)

low-product : (a b : ℤ) → a <ℤ pos 0 → pos 0 <ℤ b → (a *ℤ b) <ℤ pos 0
low-product a b ha hb =
    let n = as-natural b hb in
    subst (λ (k : ℤ). k <ℤ pos 0) (*ℤ_comm (pos n.0) a ∙ ap (λ (k : ℤ). a *ℤ k) (sym n.2)) (low-times n.0 a n.1 ha)

never-both : (a b : ℤ) → a ≡ b → a <ℤ pos 0 → pos 0 ≤ℤ b → ⊥
never-both a b e h k = omega (arith, ints, e, h, k)

-- ---- one corner

-- x is strictly beyond w, on the way to the end
abbrev IsBeyond : Fraction → Fraction → Fraction → Type 0
IsBeyond w x end = (IsLess w x × IsNoMore x end) ⊎ (IsNoMore end x × IsLess x w)

pub inside-mark : (q : Problem) (at : List Mark) (m : Mark) → IsCorner q at → IsIn (place m) at → IsMarkAt q (place m)
inside-mark q at m corner inside = contains_each (λ c. Contains (map place (marks_of (lines q))) c) at (place m) (recursion_from_All (λ k. Contains (map place (marks_of (lines q))) (place k)) at corner.marks) inside

module _ (p : Problem) (row : ℕ) (at : List Mark) (w x end : Fraction) (m : Mark) (corner : IsEachCorner p row at) (hw : 0 < w.den) (hx : 0 < x.den) (he : 0 < end.den) where
  -- what isn't above 0 at w, and is below it at the end, is below it beyond w
  falls : IsBeyond w x end → HasNegativeValue (with_constant row end p) at m → (HasPositiveValue (with_constant row w p) at m → ⊥) → HasNegativeValue (with_constant row x p) at m
  unfolding mix
  falls (inl (low, up)) (e, stands, below) none =
      let r = corner w hw in
      let not : r.point.num (place m) ≤ℤ pos 0 = not-above (r.point.num (place m)) (λ above. none (r.point, r.stands, above)) in
      let s = mixes-far w end x hw he low up in (
        mix s.near s.far s.mixes.some r.point e,
        mix_stands p row at w end x s.near s.far r.point e (mix s.near s.far s.mixes.some r.point e) hw he s.mixes r.stands stands (mix-is s.near s.far s.mixes.some r.point e),
        low-last ((pos s.far *ℤ e.num one_column) *ℤ r.point.num (place m)) ((pos s.near *ℤ r.point.num one_column) *ℤ e.num (place m)) (low-part s.far (e.num one_column) (r.point.num (place m)) e.positive not)
            (below-part s.near (r.point.num one_column) (e.num (place m)) s.near_above r.point.positive below),
      )
  falls (inr (low, up)) (e, stands, below) none =
      let r = corner w hw in
      let not : r.point.num (place m) ≤ℤ pos 0 = not-above (r.point.num (place m)) (λ above. none (r.point, r.stands, above)) in
      let s = mixes-near end w x he hw low up in (
        mix s.near s.far s.mixes.some e r.point,
        mix_stands p row at end w x s.near s.far e r.point (mix s.near s.far s.mixes.some e r.point) he hw s.mixes stands r.stands (mix-is s.near s.far s.mixes.some e r.point),
        low-first ((pos s.far *ℤ r.point.num one_column) *ℤ e.num (place m)) ((pos s.near *ℤ e.num one_column) *ℤ r.point.num (place m)) (below-part s.far (r.point.num one_column) (e.num (place m)) s.far_above r.point.positive below)
            (low-part s.near (e.num one_column) (r.point.num (place m)) e.positive not),
      )

  -- a corner with a negative value is no end at best values
  some-negative : IsIn (place m) at → HasNegativeValue (with_constant row x p) at m → NoNegativeValue (with_constant row x p) at → ⊥
  some-negative inside (z, hz, below) (q, hq, up) =
      never-both (z.num (place m) *ℤ q.num one_column) (q.num (place m) *ℤ z.num one_column)
      (marks_are_fixed (with_constant row x p) at (place m) (corner x hx) (inside-mark (with_constant row x p) at m (corner x hx) inside) z q hz hq)
      (low-product (z.num (place m)) (q.num one_column) below q.positive)
      (up-times (q.num (place m)) (z.num one_column) (contains_each (λ c. pos 0 ≤ℤ q.num c) at (place m) (recursion_from_All (λ k. pos 0 ≤ℤ q.num (place k)) at up) inside) z.positive)

  less : (a b : Fraction) → IsLess a b → IsNoMore a b
  less a b h = omega (arith, ints, h)

  -- nor one at a conflict
  no-cost : IsBeyond w x end → (CostsAbove (with_constant row w p) at 0 → ⊥) → (CostsAbove (with_constant row end p) at 0 → ⊥) → CostsAbove (with_constant row x p) at 0 → ⊥
  no-cost (inl (low, up)) none last above = none-between p row at w end x corner hw he hx (less w x low) up none last above
  no-cost (inr (low, up)) none last above = none-between p row at end w x corner he hw hx low (less x w up) last none above

-- ---- along the path

pub path_farther : PathFarther
path_farther p row at [] w x end whole hw hx he beyond corner lawful leaves = columns_at_each p row at end x lawful
path_farther p row at (s ∷ swaps) w x end whole hw hx he beyond corner lawful leaves =
    let each : IsEachCorner p row at = λ c hc. corner_at_each p row at end c whole he hc corner in
    let ex : IsExchange (with_constant row end p) at s = lawful.2 in
    let negative = falls p row at w x end s.leave each hw hx he beyond lawful.3 leaves.0 in (
      columns_at_each p row at end x lawful.0,
      (λ end_there. elim end_there [
        | inl best ↦ some-negative p row at w x end s.leave each hw hx he ex.leaves negative best
        | inr above ↦ no-cost p row at w x end s.leave each hw hx he beyond leaves.1 (λ c. lawful.1 (inr c)) above
      ]),
      record { enters = ex.enters; leaves = ex.leaves; corner = corner_at_each p row (exchanged s at) end x whole he hx ex.corner },
      negative,
      path_farther p row (exchanged s at) swaps w x end whole hw hx he beyond ex.corner lawful.4 leaves.2,
    )
