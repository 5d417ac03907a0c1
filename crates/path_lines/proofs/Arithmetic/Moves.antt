-- The sign of a value that has moved.
use Rattle.std.proofs.Common.{◌≡◌, ◌∙◌, zero, suc, ◌<◌, ◌^◌, ℤ, pos, ◌+ℤ◌, ◌-ℤ◌, ◌*ℤ◌, negsuc, neg_ℤ, ap, arith}
use Rattle.std.specs.Prelude.{unsigned_abs, FitsSigned}
use Rattle.std.specs.Int.{w128}
use Rattle.std.proofs.lemmas.Int.{fits_signed_from_abs}
use borrow.Author.Differences.{ints}
use Rattle.std.specs.Ordering.{int_cmp}
use Rattle.frac_core.specs.Fraction.{Fraction, sum_num}
use Rattle.frac_core.proofs.Integers.{mul_assoc_ℤ}
use Rattle.problem_core.proofs.GapFacts.GapSigns.{same-order}
use Rattle.frac_core.proofs.Numbers.{neg-times as neg_times}

minus_minus : (x y : ℤ) → x +ℤ y ≡ x -ℤ neg_ℤ y
minus_minus x y = omega (arith, ints)

order_is : (x y : ℤ) → int_cmp x (neg_ℤ y) ≡ int_cmp (x +ℤ y) (pos 0)
order_is x y = same-order 1 1 (x +ℤ y) x (neg_ℤ y) (omega arith) (omega arith) (ap (λ (z : ℤ). pos 1 *ℤ z) (minus_minus x y))

pub moved_order : (b v : Fraction) (times over : ℤ) → int_cmp (b.num *ℤ (over *ℤ pos v.den)) (neg_ℤ (times *ℤ v.num) *ℤ pos b.den) ≡ int_cmp (sum_num b times over v) (pos 0)
moved_order b v times over =
    ap (int_cmp (b.num *ℤ (over *ℤ pos v.den))) (neg_times (times *ℤ v.num) (pos b.den) ∙ ap neg_ℤ (mul_assoc_ℤ times v.num (pos b.den)))
    ∙ order_is (b.num *ℤ (over *ℤ pos v.den)) (times *ℤ (v.num *ℤ pos b.den))

neg_small : (z : ℤ) → unsigned_abs z < 2 ^ 126 → unsigned_abs (neg_ℤ z) < 2 ^ 127
neg_small (pos zero) small = omega arith
neg_small (pos (suc n)) small = omega (arith, small)
neg_small (negsuc n) small = omega (arith, small)

pub neg_fits : (z : ℤ) → unsigned_abs z < 2 ^ 126 → FitsSigned w128 (neg_ℤ z)
neg_fits z small = fits_signed_from_abs w128 (neg_ℤ z) (omega (arith, neg_small z small))
