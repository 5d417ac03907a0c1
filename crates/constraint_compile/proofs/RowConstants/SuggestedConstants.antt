-- The constant of a suggestion's row.
use Rattle.std.proofs.Common.{◌≡◌, ◌∙◌, ℕ, ◌<◌, ◌^◌, Option, Some, None, IfSome, IfNone, ℤ, pos, neg_ℤ, ◌*ℤ◌, sym, ap, arith}
use Rattle.std.specs.Prelude.{OnSome}
use Rattle.std.specs.Int.RustNames.{unsigned_abs}
use borrow.Author.Differences.{ints}
use lib.IntN.{*ℤ_comm}
use Rattle.frac_core.specs.Fraction.{Fraction, IsLowest, IsRatio}
use Rattle.frac_core.proofs.Integers.{mul-opposite}
use Rattle.compile_parts.specs.Fractions.{negated, IsConstant, IsSmallConstant}

negated-twice : (k : ℕ) (n : ℤ) → pos k *ℤ n ≡ neg_ℤ (pos k *ℤ neg_ℤ n)
negated-twice k n =
    rw (*ℤ_comm (pos k) (neg_ℤ n), *ℤ_comm (pos k) n)
    (let e : n *ℤ pos k ≡ neg_ℤ (neg_ℤ n *ℤ pos k) = omega (arith, ints, mul-opposite n (pos k)) in e)

module _ (k : ℕ) (value : Fraction) where
  ratio-there : (f : Fraction) → IsRatio f (pos k *ℤ value.num) (pos value.den) → IsRatio f (neg_ℤ (pos k *ℤ neg_ℤ value.num)) (pos value.den)
  ratio-there f is = is ∙ ap (λ (z : ℤ). z *ℤ pos f.den) (negated-twice k value.num)

  ratio-back : (f : Fraction) → IsRatio f (neg_ℤ (pos k *ℤ neg_ℤ value.num)) (pos value.den) → IsRatio f (pos k *ℤ value.num) (pos value.den)
  ratio-back f is = is ∙ ap (λ (z : ℤ). z *ℤ pos f.den) (sym (negated-twice k value.num))

  pub some-constant : (o : Option Fraction) → IfSome o (λ f. IsRatio f (pos k *ℤ value.num) (pos value.den)) → IfSome o IsLowest → IfSome o (IsConstant k (negated value))
  some-constant None value_is lowest = tt
  some-constant (Some f) value_is lowest = record { lowest = lowest; value = ratio-there f value_is }

  pub small-constant : (o : Option Fraction) → IfSome o (λ f. IsRatio f (pos k *ℤ value.num) (pos value.den)) → IfSome o IsLowest → IfSome o (λ f. (unsigned_abs f.num < 2 ^ 40) × (f.den < 2 ^ 40)) → OnSome o (IsSmallConstant k (negated value))
  small-constant None value_is lowest small = tt
  small-constant (Some f) value_is lowest small = record {
    constant = f;
    is_constant = record { lowest = lowest; value = ratio-there f value_is };
    num_small = small.0;
    den_small = small.1;
  }

  pub no-constant : (o : Option Fraction) → IfNone o ((f : Fraction) → IsLowest f → IsRatio f (pos k *ℤ value.num) (pos value.den) → unsigned_abs f.num < 2 ^ 40 → f.den < 2 ^ 40 → ⊥) → IfNone o (IsSmallConstant k (negated value) → ⊥)
  no-constant None none = λ small. none small.constant small.is_constant.lowest (ratio-back small.constant small.is_constant.value) small.num_small small.den_small
  no-constant (Some f) none = tt
