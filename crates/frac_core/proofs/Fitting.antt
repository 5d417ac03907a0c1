-- Fitting numbers and ratios.
use Rattle.std.specs.Prelude.{unsigned_abs}
use Rattle.std.proofs.Common.{FitsSigned, SFits, ap, arith, neg_ℤ, pos, sym, ℕ, ℤ, ◌*ℤ◌, ◌<ℤ◌, ◌<◌, ◌∙◌, ◌≡◌}
use Rattle.std.specs.Int.{w64}
use borrow.Author.Differences.{ints}
use Rattle.frac_core.proofs.Integers.{cancel_mul, mul_assoc_ℤ, mul_left_comm_ℤ}
use Rattle.frac_core.specs.Fraction.{Fraction, IsFitting, IsLowest, IsRatio}
use Rattle.frac_core.proofs.Numbers.{pos-size, swap-last}
use Rattle.frac_core.proofs.Made.{same_fraction}

pub neg-fits : (z : ℤ) → IsFitting z → IsFitting (neg_ℤ z)
neg-fits z h = omega (arith, ints, h)

pub zero-fits : (z : ℤ) → z ≡ pos 0 → IsFitting z
zero-fits z e = omega (arith, ints, e)

pub fits-signed : (z : ℤ) → IsFitting z → FitsSigned w64 z
fits-signed z h = omega (arith, ints, h)

pub fits-word : (z : ℤ) → IsFitting z → SFits w64 z
fits-word z h = omega (arith, ints, h)

pub ratio-up : (c : ℕ) (f : Fraction) (n d : ℤ) → IsRatio f n d → IsRatio f (pos c *ℤ n) (pos c *ℤ d)
ratio-up c f n d r = mul_left_comm_ℤ f.num (pos c) d ∙ ap (λ (z : ℤ). pos c *ℤ z) r ∙ sym (mul_assoc_ℤ (pos c) n (pos f.den))

pub ratio-down : (c : ℕ) (f : Fraction) (n d : ℤ) → 0 < c → IsRatio f (pos c *ℤ n) (pos c *ℤ d) → IsRatio f n d
ratio-down c f n d some r = cancel_mul c (f.num *ℤ d) (n *ℤ pos f.den) some (sym (mul_left_comm_ℤ f.num (pos c) d) ∙ r ∙ mul_assoc_ℤ (pos c) n (pos f.den))

pub crossed : (z q : ℤ) (d : ℕ) → q *ℤ (z *ℤ pos d) ≡ (z *ℤ q) *ℤ pos d
crossed z q d = mul_left_comm_ℤ q z (pos d) ∙ sym (mul_assoc_ℤ z q (pos d))

-- fractions in lowest terms for one ratio are one
pub same-value : (f g : Fraction) (p q : ℤ) → pos 0 <ℤ q → IsLowest f → IsLowest g → IsRatio f p q → IsRatio g p q → f ≡ g
same-value f g p q above low_f low_g is_f is_g =
    same_fraction f g low_f low_g
    (cancel_mul (unsigned_abs q) (f.num *ℤ pos g.den) (g.num *ℤ pos f.den) (omega (arith, ints, above))
    (ap (λ (k : ℤ). k *ℤ (f.num *ℤ pos g.den)) (pos-size q above)
    ∙ crossed f.num q g.den ∙ ap (λ (z : ℤ). z *ℤ pos g.den) is_f ∙ swap-last p (pos f.den) (pos g.den)
    ∙ sym (ap (λ (k : ℤ). k *ℤ (g.num *ℤ pos f.den)) (pos-size q above) ∙ crossed g.num q f.den ∙ ap (λ (z : ℤ). z *ℤ pos f.den) is_g)))
