-- What a level costs after an exchange, with the entering line's deviation by the pivot.
use Rattle.std.proofs.Common.{◌≡◌, ◌∙◌, ℕ, ◌*◌, ◌<◌, ℤ, pos, negsuc, ◌+ℤ◌, ◌*ℤ◌, ◌<ℤ◌, unsigned_abs, refl, sym, ap, ap₂, subst₂, arith, mul-pos}
use Rattle.std.proofs.lemmas.Int.{ints, unsigned_abs-mul}
use Rattle.frac_core.proofs.Integers.{mul_assoc_ℤ}
use Rattle.frac_core.specs.Fraction.{Fraction, IsRatio, IsUnfitRatio, sum_den, sum_num}
use Rattle.corner_lines.specs.Levels.LevelCosts.{IsCostStep, IsUnfitStep}
use Rattle.path_lines.specs.declared.exchange.Pivot.{Pivot}
use Rattle.path_lines.specs.Exchanges.Pivots.{IsEnteredBy}
use Rattle.path_levels.specs.declared.sums.LevelSum.{LevelSum}
use Rattle.path_levels.specs.Exchanges.FitsAfter.{moved_den, moved_num}
use Rattle.frac_core.proofs.Numbers.{one-times as one_times, pos-size as up}
use Rattle.frac_core.proofs.Divisors.{size_above as some_up}

-- the entering line's deviation, as it comes
abbrev pub entered : Pivot → Fraction
entered pivot = record { num = pivot.times *ℤ pivot.value.num; den = unsigned_abs pivot.size * pivot.value.den }

size_times : (size : ℤ) (d : ℕ) → pos 0 <ℤ size → pos (unsigned_abs size * d) ≡ size *ℤ pos d
size_times (pos n) d up = refl
size_times (negsuc n) d up = absurd up.lt

zero_num : (t v s : ℤ) → pos 0 *ℤ s +ℤ t *ℤ (v *ℤ pos 1) ≡ t *ℤ v
zero_num t v s =
    let one : v *ℤ pos 1 ≡ v = omega (arith, ints) in
    let none : pos 0 *ℤ s ≡ pos 0 = omega (arith, ints) in
    ap₂ ◌+ℤ◌ none (ap (λ (z : ℤ). t *ℤ z) one) ∙ zero_add (t *ℤ v)
  where
    zero_add : (z : ℤ) → pos 0 +ℤ z ≡ z
    zero_add z = omega (arith, ints)

pub entered_is : (pivot : Pivot) → pos 0 <ℤ pivot.size → 0 < pivot.value.den → IsEnteredBy pivot (entered pivot)
entered_is pivot above some = (
  mul-pos (some_up pivot.size above) some,
  ap₂ ◌*ℤ◌ (sym (zero_num pivot.times pivot.value.num (pivot.size *ℤ pos pivot.value.den))) (one_times (pivot.size *ℤ pos pivot.value.den) ∙ sym (size_times pivot.size pivot.value.den above)),
)

num_same : (c w s d n t v f : ℤ) → c *ℤ (w *ℤ (s *ℤ d)) +ℤ n *ℤ ((t *ℤ v) *ℤ f) ≡ c *ℤ ((w *ℤ s) *ℤ d) +ℤ (n *ℤ t) *ℤ (v *ℤ f)
num_same c w s d n t v f = ap₂ ◌+ℤ◌ (ap (λ (z : ℤ). c *ℤ z) (sym (mul_assoc_ℤ w s d))) (ap (λ (z : ℤ). n *ℤ z) (mul_assoc_ℤ t v f) ∙ sym (mul_assoc_ℤ n t (v *ℤ f)))

scale_up : (sum : LevelSum) → pos 0 <ℤ (sum.own *ℤ sum.unit) → pos (unsigned_abs sum.own * unsigned_abs sum.unit) ≡ sum.own *ℤ sum.unit
scale_up sum above = ap pos (sym (unsigned_abs-mul sum.own sum.unit)) ∙ up (sum.own *ℤ sum.unit) above

nums : (n : ℤ) (pivot : Pivot) (sum : LevelSum) → pos 0 <ℤ pivot.size → pos 0 <ℤ (sum.own *ℤ sum.unit) → sum_num sum.cost n (pos (unsigned_abs sum.own * unsigned_abs sum.unit)) (entered pivot) ≡ moved_num n pivot sum
nums n pivot sum above scale =
    ap₂ (λ (w d : ℤ). sum.cost.num *ℤ (w *ℤ d) +ℤ n *ℤ ((pivot.times *ℤ pivot.value.num) *ℤ pos sum.cost.den)) (scale_up sum scale) (size_times pivot.size pivot.value.den above)
    ∙ num_same sum.cost.num (sum.own *ℤ sum.unit) pivot.size (pos pivot.value.den) n pivot.times pivot.value.num (pos sum.cost.den)

dens : (pivot : Pivot) (sum : LevelSum) → pos 0 <ℤ pivot.size → pos 0 <ℤ (sum.own *ℤ sum.unit) → sum_den sum.cost (pos (unsigned_abs sum.own * unsigned_abs sum.unit)) (entered pivot) ≡ moved_den pivot sum
dens pivot sum above scale =
    ap₂ (λ (w d : ℤ). pos sum.cost.den *ℤ (w *ℤ d)) (scale_up sum scale) (size_times pivot.size pivot.value.den above)
    ∙ ap (λ (z : ℤ). pos sum.cost.den *ℤ z) (sym (mul_assoc_ℤ (sum.own *ℤ sum.unit) pivot.size (pos pivot.value.den)))

pub cost_step : (n : ℤ) (pivot : Pivot) (sum : LevelSum) (next : Fraction) → pos 0 <ℤ pivot.size → pos 0 <ℤ (sum.own *ℤ sum.unit) → 0 < sum.cost.den → 0 < pivot.value.den → IsRatio next (moved_num n pivot sum) (moved_den pivot sum)
    → IsCostStep sum.cost n (unsigned_abs sum.own * unsigned_abs sum.unit) (entered pivot) next
cost_step n pivot sum next above scale cost_den value_den ratio = record {
  cost_den = cost_den;
  value_den = mul-pos (some_up pivot.size above) value_den;
  ratio = subst₂ (λ (a b : ℤ). IsRatio next a b) (sym (nums n pivot sum above scale)) (sym (dens pivot sum above scale)) ratio;
}

pub unfit_step : (n : ℤ) (pivot : Pivot) (sum : LevelSum) → pos 0 <ℤ pivot.size → pos 0 <ℤ (sum.own *ℤ sum.unit) → IsUnfitRatio (moved_num n pivot sum) (moved_den pivot sum) → IsUnfitStep sum.cost n (unsigned_abs sum.own * unsigned_abs sum.unit) (entered pivot)
unfit_step n pivot sum above scale unfit next lowest ratio fits = unfit next lowest (subst₂ (λ (a b : ℤ). IsRatio next a b) (nums n pivot sum above scale) (dens pivot sum above scale) ratio) fits
