-- Sums over 1 with a share more, where they stay whole.
use Rattle.std.proofs.Common.{◌≡◌, ℕ, ◌*◌, ◌/◌, List, map, get_or, All, ℤ, pos, ◌+ℤ◌, ◌*ℤ◌, refl, sym, subst, ◌∙◌, arith}
use Prim.Native.Nat.{◌∣◌}
use Rattle.std.specs.Prelude.{unsigned_abs}
use borrow.Author.Differences.{ints}
use Rattle.std.proofs.lemmas.Int.{unsigned_abs-mul}
use Rattle.std.proofs.lemmas.List.{get_or_default, length-map}
use Rattle.std.proofs.Math.ListN.{get_or-map}
use Rattle.std.proofs.Math.Nat.{dvd-mul_right}
use Rattle.frac_core.specs.Fraction.{Fraction}
use Rattle.constraint_compile.specs.Coefficients.Sums.{AreKept, IsSum, IsCovered, IsDivisor, AreDivided, AreWhole, number_at, with_share}
use Rattle.compile_parts.specs.declared.shares.Share.{Share}
use Rattle.constraint_compile.proofs.Sums.Joint.{IsStep, step_sum}
use Rattle.frac_core.proofs.Numbers.{one-times as one_times}

twice_sum : (n w t : ℤ) → w *ℤ pos 2 ≡ t → pos 2 *ℤ (n +ℤ w) ≡ n *ℤ pos 2 +ℤ t
twice_sum n w t is = omega (arith, ints, is)

pub whole_value : (n w num c : ℤ) (d : ℕ) → d ≡ 1 → w *ℤ pos 2 ≡ num *ℤ c → pos 2 *ℤ (n +ℤ w) ≡ n *ℤ pos (d * 2) +ℤ num *ℤ (pos 1 *ℤ c)
whole_value n w num c d one exact = rw (one, one_times c) (twice_sum n w (num *ℤ c) exact)

doubled_at : (next : List ℤ) (i : ℕ) → number_at (map (λ z. pos 2 *ℤ z) next) i ≡ pos 2 *ℤ number_at next i
doubled_at next i = get_or-map (λ (z : ℤ). pos 2 *ℤ z) next i (pos 0)

all_even : (next : List ℤ) → All (λ z. 2 ∣ unsigned_abs z) (map (λ z. pos 2 *ℤ z) next)
all_even next = λ i d within.
    let same : get_or (map (λ z. pos 2 *ℤ z) next) i d ≡ pos 2 *ℤ number_at next i = get_or_default (map (λ (z : ℤ). pos 2 *ℤ z) next) i d (pos 0) within ∙ doubled_at next i in
    rw (same, unsigned_abs-mul (pos 2) (number_at next i)) (dvd-mul_right 2 (unsigned_abs (number_at next i)))

whole_divisor : (d : ℕ) (next : List ℤ) → d ≡ 1 → IsDivisor (1 * (d * 2)) (map (λ z. pos 2 *ℤ z) next) 2
whole_divisor d next one = rw one (record {
  of_whole = dvd-mul_right 2 1;
  of_each = all_even next;
  greatest = λ x j whole all. whole;
})

whole_step : (b : ℕ → Fraction) (attrs : List ℕ) (numbers : List ℤ) (s : Share) (next : List ℤ) → AreKept attrs 1 numbers → IsSum b attrs 1 numbers → IsCovered attrs s → s.by.den ≡ 1 → AreWhole attrs numbers s next → IsStep b attrs 1 numbers s (map (λ z. pos 2 *ℤ z) next) 2
whole_step b attrs numbers s next kept sum covered one whole = record {
  kept = kept;
  sum = sum;
  covered = covered;
  den = omega (arith, one);
  long = length-map next (λ (z : ℤ). pos 2 *ℤ z) ∙ whole.long;
  each = λ i within. doubled_at next i ∙ whole.each i within;
  divisor = whole_divisor s.by.den next one;
}

whole_divided : (attrs : List ℕ) (numbers : List ℤ) (s : Share) (next : List ℤ) → AreWhole attrs numbers s next → AreDivided (map (λ z. pos 2 *ℤ z) next) (pos 2) next
whole_divided attrs numbers s next whole = record {
  long = sym (length-map next (λ (z : ℤ). pos 2 *ℤ z));
  each = λ i within. sym (doubled_at next i);
  small = whole.small;
}

one_again : (d : ℕ) → d ≡ 1 → (1 * (d * 2)) / 2 ≡ 1
one_again d one = rw one refl

pub whole_sum : (b : ℕ → Fraction) (attrs : List ℕ) (numbers : List ℤ) (s : Share) (next : List ℤ) → AreKept attrs 1 numbers → s.by.den ≡ 1 → AreWhole attrs numbers s next → IsSum b attrs 1 numbers → IsCovered attrs s → IsSum (with_share b s) attrs 1 next
whole_sum b attrs numbers s next kept one whole sum covered =
    subst (λ (k : ℕ). IsSum (with_share b s) attrs k next) (one_again s.by.den one)
    (step_sum b attrs 1 numbers s (map (λ z. pos 2 *ℤ z) next) 2 next (whole_step b attrs numbers s next kept sum covered one whole) (whole_divided attrs numbers s next whole))

pub whole_kept : (attrs : List ℕ) (numbers : List ℤ) (s : Share) (next : List ℤ) → AreWhole attrs numbers s next → AreKept attrs 1 next
whole_kept attrs numbers s next whole = record {
  long = whole.long;
  above = omega arith;
  small_scale = omega arith;
  small = whole.small;
}
