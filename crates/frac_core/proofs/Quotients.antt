-- Quotients of whole numbers that leave nothing, and sizes of numbers.
use Rattle.std.proofs.Common.{◌≡◌, ◌∙◌, ℕ, zero, suc, ◌*◌, ◌/◌, ◌<◌, ◌≤◌, ap, arith, refl, ℤ, pos, negsuc, neg_ℤ, ◌*ℤ◌, ◌<ℤ◌}
use Prim.Native.Nat.{◌∣◌}
use Rattle.std.proofs.Math.Nat.{div-mul_cancel, mul-lt-mul_of_pos_left}
use Rattle.std.specs.Prelude.{unsigned_abs}
use Rattle.std.specs.Int.RustNames.{int_div}
use borrow.Author.Differences.{ints}
use Rattle.frac_core.specs.declared.frac.TheConstants.{PART_BOUND}
use Rattle.frac_core.proofs.Integers.{mul-zero_ℤ}

pub swapped_cancel : (m n : ℕ) → n ∣ m → n * (m / n) ≡ m
swapped_cancel m n divides = omega (arith, div-mul_cancel n divides)

pub positive_is : (g : ℤ) → pos 0 <ℤ g → (g ≡ pos (unsigned_abs g)) × (0 < unsigned_abs g)
positive_is (pos n) h = (refl, omega (arith, ints))
positive_is (negsuc n) h = absurd (omega (arith, ints))

pub above_bound : (n f a m : ℕ) → f ≤ n → m ≡ f * a → 0 < f → a < PART_BOUND → n * PART_BOUND ≤ m → ⊥
above_bound n f a m le product some less large =
    let scaled : f * a < f * PART_BOUND = mul-lt-mul_of_pos_left less some in
    omega (arith, scaled, le, product, large)

pub size_opposite : (z : ℤ) → unsigned_abs (neg_ℤ z) ≡ unsigned_abs z
size_opposite (pos zero) = refl
size_opposite (pos (suc n)) = refl
size_opposite (negsuc n) = refl

zero_times : (n : ℕ) → 0 ≡ n * 0
zero_times n = omega arith

pub times_neg : (n k : ℕ) → pos n *ℤ neg_ℤ (pos k) ≡ neg_ℤ (pos (n * k))
times_neg n zero = mul-zero_ℤ (pos n) ∙ ap (λ (m : ℕ). neg_ℤ (pos m)) (zero_times n)
times_neg zero (suc k) = refl
times_neg (suc n) (suc k) = refl

-- an exact division
pub exact_quotient : (a d : ℤ) → pos 0 <ℤ d → unsigned_abs d ∣ unsigned_abs a → d *ℤ int_div a d ≡ a
exact_quotient (pos m) (pos n) above divides = ap pos (swapped_cancel m n divides)
exact_quotient (negsuc m) (pos n) above divides = times_neg n (suc m / n) ∙ ap (λ (k : ℕ). neg_ℤ (pos k)) (swapped_cancel (suc m) n divides)
exact_quotient a (negsuc n) above divides = absurd (omega (arith, ints))
