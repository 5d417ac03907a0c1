-- Units of levels' costs, and their common multiples.
use Rattle.std.proofs.Common.{◌≡◌, ◌∙◌, ℕ, ◌*◌, ◌/◌, ◌<◌, ◌≤◌, ◌^◌, arith, sym, ap, ap₂, subst, ℤ, pos, ◌+ℤ◌, ◌-ℤ◌, ◌*ℤ◌, ◌<ℤ◌, neg_ℤ, unsigned_abs, SFits}
use Rattle.std.specs.Int.{IsGcd, w128}
use Rattle.std.proofs.Math.IntN.{*ℤ_comm}
use Rattle.std.proofs.Math.Nat.{mul-div_cancel'}
use borrow.Author.Differences.{ints}
use Rattle.std.proofs.lemmas.Nat.Gcd.{IsGcd-swap}
use Rattle.frac_core.specs.Fraction.{IsFitting}
use Rattle.frac_core.specs.declared.frac.TheConstants.{PART_BOUND}
use Rattle.frac_core.proofs.Integers.{diff-add, diff-mul, diff-neg, diff-pos, diff_eq, neg-pos, on_1, on_3}
use Rattle.row_core.specs.declared.entry.Factors.{Factors}
use Rattle.corner_lines.specs.Levels.LevelJoins.{IsLeastMultiple}
use Rattle.corner_table.specs.declared.table.Slot.{Slot}
use Rattle.corner_table.specs.Reads.LevelNumbers.{IsCounted}
use Rattle.corner_joins.specs.Additions.CostJoins.{AreShareFactors, AreUnitFactors, IsLeastUnit, IsRise, IsUnfitRise}
use Rattle.corner_lines.proofs.LevelRows.Units.{part_above, least_multiple, positive_is}
use Rattle.frac_core.proofs.Numbers.{times-one, part-less as at-least}
use Rattle.frac_core.proofs.Divisors.{size_above}

-- ---- what the code finds

pub record IsRisen (slot : Slot) (unit d part g times next : ℤ) : Type 0 where
  pub divides : IsGcd (unsigned_abs slot.scale) (unsigned_abs slot.weight) (unsigned_abs d)
  pub part_is : part ≡ pos (unsigned_abs slot.scale / unsigned_abs d)
  pub shares : IsGcd (unsigned_abs part) (unsigned_abs unit) (unsigned_abs g)
  pub times_is : times ≡ pos (unsigned_abs part / unsigned_abs g)
  pub next_is : next ≡ unit *ℤ times

pub scale_above : (slot : Slot) (unit : ℤ) → IsCounted slot unit → pos 0 <ℤ slot.scale
scale_above slot unit c = let e = c.scale_is in let h = c.scale_positive in omega (arith, ints, e, h)

part-up : (slot : Slot) (unit d part g times next : ℤ) → IsRisen slot unit d part g times next → IsCounted slot unit → 0 < unsigned_abs part
part-up slot unit d part g times next r c = subst (λ (z : ℤ). 0 < unsigned_abs z) (sym r.part_is) (part_above (unsigned_abs slot.scale) (unsigned_abs slot.weight) (unsigned_abs d) r.divides c.scale_positive)

least-of : (slot : Slot) (unit d part g times next : ℤ) → IsRisen slot unit d part g times next → IsCounted slot unit → pos 0 <ℤ unit → IsLeastUnit slot unit (unsigned_abs part / unsigned_abs g * unsigned_abs unit)
least-of slot unit d part g times next r c above = record {
  divisor = unsigned_abs d;
  divides = r.divides;
  least = subst (λ (n : ℕ). IsLeastMultiple (unsigned_abs unit) n (unsigned_abs part / unsigned_abs g * unsigned_abs unit)) (ap unsigned_abs r.part_is)
      (least_multiple (unsigned_abs part) (unsigned_abs unit) (unsigned_abs g) r.shares (part-up slot unit d part g times next r c) (size_above unit above));
}

product-is : (unit times : ℤ) (t : ℕ) → unit ≡ pos (unsigned_abs unit) → times ≡ pos t → unit *ℤ times ≡ pos (t * unsigned_abs unit)
product-is unit times t e f = (rw f (rw e (omega (arith, ints))))

pub rise_of : (slot : Slot) (unit d part g times next : ℤ) → IsRisen slot unit d part g times next → IsCounted slot unit → pos 0 <ℤ unit → unsigned_abs next < PART_BOUND → IsRise slot unit (record { unit = next; times = times })
rise_of slot unit d part g times next r c above small =
    let t : ℕ = unsigned_abs part / unsigned_abs g in
    let e : next ≡ pos (unsigned_abs part / unsigned_abs g * unsigned_abs unit) = r.next_is ∙ product-is unit times (unsigned_abs part / unsigned_abs g) c.unit_is r.times_is in
    record {
      times = unsigned_abs part / unsigned_abs g;
      times_is = r.times_is;
      above = part_above (unsigned_abs part) (unsigned_abs unit) (unsigned_abs g) r.shares (part-up slot unit d part g times next r c);
      unit_is = e;
      least = least-of slot unit d part g times next r c above;
      times_fits = subst (λ (z : ℤ). IsFitting z) (sym r.times_is) (at-least (unsigned_abs part / unsigned_abs g) (unsigned_abs unit) PART_BOUND (size_above unit above) (subst (λ (z : ℤ). unsigned_abs z < PART_BOUND) e small));
      fits = small;
    }

pub unfit_rise : (slot : Slot) (unit d part g times next : ℤ) → IsRisen slot unit d part g times next → IsCounted slot unit → pos 0 <ℤ unit → PART_BOUND ≤ unsigned_abs next → IsUnfitRise slot unit
unfit_rise slot unit d part g times next r c above large =
    let e : next ≡ pos (unsigned_abs part / unsigned_abs g * unsigned_abs unit) = r.next_is ∙ product-is unit times (unsigned_abs part / unsigned_abs g) c.unit_is r.times_is in
    record {
      times = unsigned_abs part / unsigned_abs g;
      above = part_above (unsigned_abs part) (unsigned_abs unit) (unsigned_abs g) r.shares (part-up slot unit d part g times next r c);
      least = least-of slot unit d part g times next r c above;
      unfit = subst (λ (z : ℤ). PART_BOUND ≤ unsigned_abs z) e large;
    }

-- ---- factors of rows

ruleset ring = (diff-add, diff-mul, diff-neg, diff-pos, neg-pos)

crossed : (a k d : ℕ) (z : ℤ) → (pos a *ℤ z) *ℤ pos (d * k) ≡ (pos (d * a) *ℤ z) *ℤ pos k
crossed a k d = on_1 (λ z. (pos a *ℤ z) *ℤ pos (d * k) ≡ (pos (d * a) *ℤ z) *ℤ pos k) (λ c c'. simp ring (diff_eq _ _ _ _ (omega arith)))

parts-cross : (own line count : ℤ) (d : ℕ) → pos 0 <ℤ own → pos 0 <ℤ line → IsGcd (unsigned_abs own) (unsigned_abs line) d → (pos (unsigned_abs own / d) *ℤ count) *ℤ line ≡ (own *ℤ count) *ℤ pos (unsigned_abs line / d)
parts-cross own line count d up above is =
    let e : line ≡ pos (d * (unsigned_abs line / d)) = positive_is line above ∙ ap pos (sym (mul-div_cancel' d is.1)) in
    let f : pos (d * (unsigned_abs own / d)) ≡ own = ap pos (mul-div_cancel' d is.0) ∙ sym (positive_is own up) in
    ap (λ (z : ℤ). (pos (unsigned_abs own / d) *ℤ count) *ℤ z) e
    ∙ crossed (unsigned_abs own / d) (unsigned_abs line / d) d count
    ∙ ap (λ (z : ℤ). (z *ℤ count) *ℤ pos (unsigned_abs line / d)) f

pub share_factors : (own line count times : ℤ) (by : Factors) (d a b : ℤ) → pos 0 <ℤ own → pos 0 <ℤ line → IsGcd (unsigned_abs own) (unsigned_abs line) (unsigned_abs d)
    → a ≡ pos (unsigned_abs line / unsigned_abs d) → b ≡ pos (unsigned_abs own / unsigned_abs d) → by.k ≡ a *ℤ times → by.n ≡ b *ℤ count → AreShareFactors own line count times by
share_factors own line count times by d a b up above is e f k n = record {
  k = unsigned_abs line / unsigned_abs d;
  above = part_above (unsigned_abs line) (unsigned_abs own) (unsigned_abs d) (IsGcd-swap (unsigned_abs own) (unsigned_abs line) (unsigned_abs d) is) (size_above line above);
  k_is = k ∙ ap (λ (z : ℤ). z *ℤ times) e;
  same = ap (λ (z : ℤ). z *ℤ line) (n ∙ ap (λ (z : ℤ). z *ℤ count) f) ∙ parts-cross own line count (unsigned_abs d) up above is;
}

minus-plus : (k own : ℤ) (a : ℤ) → k *ℤ own +ℤ (a +ℤ neg_ℤ (own *ℤ k)) ≡ a
minus-plus = on_3 (λ k own a. k *ℤ own +ℤ (a +ℤ neg_ℤ (own *ℤ k)) ≡ a) (λ b b' c c' e e'. simp ring (diff_eq _ _ _ _ (omega arith)))

sub-neg : (a b : ℤ) → a -ℤ b ≡ a +ℤ neg_ℤ b
sub-neg a b = omega (arith, ints)

pub unit_factors : (own times : ℤ) (by : Factors) (d k a p : ℤ) → pos 0 <ℤ own → pos 0 <ℤ times → IsGcd (unsigned_abs own) (unsigned_abs times) (unsigned_abs d)
    → k ≡ pos (unsigned_abs times / unsigned_abs d) → a ≡ pos (unsigned_abs own / unsigned_abs d) → p ≡ own *ℤ k → by.k ≡ k → by.n ≡ a -ℤ p → AreUnitFactors own times by
unit_factors own times by d k a p up above is e f g bk bn =
    let n : ℕ = unsigned_abs times / unsigned_abs d in
    let left : pos (unsigned_abs times / unsigned_abs d) *ℤ own +ℤ by.n ≡ a =
    ap (λ (z : ℤ). z *ℤ own +ℤ by.n) (sym e) ∙ ap (λ (z : ℤ). k *ℤ own +ℤ z) (bn ∙ sub-neg a p ∙ ap (λ (z : ℤ). a +ℤ neg_ℤ z) g) ∙ minus-plus k own a in
    record {
      k = unsigned_abs times / unsigned_abs d;
      above = part_above (unsigned_abs times) (unsigned_abs own) (unsigned_abs d) (IsGcd-swap (unsigned_abs own) (unsigned_abs times) (unsigned_abs d) is) (size_above times above);
      k_is = bk ∙ e;
      same = ap (λ (z : ℤ). z *ℤ times) (left ∙ f) ∙ (sym (times-one (pos (unsigned_abs own / unsigned_abs d) *ℤ times)) ∙ one-cross own times (unsigned_abs d) up above is);
    }
  where
    one-cross : (own times : ℤ) (d : ℕ) → pos 0 <ℤ own → pos 0 <ℤ times → IsGcd (unsigned_abs own) (unsigned_abs times) d → (pos (unsigned_abs own / d) *ℤ times) *ℤ pos 1 ≡ pos (unsigned_abs times / d) *ℤ own
    one-cross own times d up above is =
        times-one (pos (unsigned_abs own / d) *ℤ times) ∙ ap (λ (z : ℤ). z *ℤ times) (sym (times-one (pos (unsigned_abs own / d))))
        ∙ parts-cross own times (pos 1) d up above is ∙ ap (λ (z : ℤ). z *ℤ pos (unsigned_abs times / d)) (times-one own) ∙ *ℤ_comm own (pos (unsigned_abs times / d))

pub difference_sfits : (a p : ℤ) → unsigned_abs a < 2 ^ 63 → unsigned_abs p < 2 ^ 84 → SFits w128 (a -ℤ p)
difference_sfits a p h k = omega (arith, ints, h, k)

fitting-size : (z : ℤ) → IsFitting z → unsigned_abs z < 2 ^ 63
fitting-size z h = omega (arith, h)

pub unit_small : (own k a p : ℤ) (n : ℕ) → a ≡ pos n → IsFitting a → pos 0 <ℤ own → pos 0 <ℤ k → p ≡ own *ℤ k → unsigned_abs p < 2 ^ 84 → unsigned_abs (a -ℤ p) < 2 ^ 84
unit_small own k a p n e small up above f less =
    let g : p ≡ pos (unsigned_abs own * unsigned_abs k) = f ∙ ap₂ ◌*ℤ◌ (positive_is own up) (positive_is k above) in
    between a p n (unsigned_abs own * unsigned_abs k) e g small less
  where
    between : (a p : ℤ) (n m : ℕ) → a ≡ pos n → p ≡ pos m → IsFitting a → unsigned_abs p < 2 ^ 84 → unsigned_abs (a -ℤ p) < 2 ^ 84
    between a p n m e g small less = omega (arith, ints, e, g, small, less)

pub unit_sfits : (a p : ℤ) → IsFitting a → unsigned_abs p < 2 ^ 84 → SFits w128 (a -ℤ p)
unit_sfits a p h k = difference_sfits a p (fitting-size a h) k
