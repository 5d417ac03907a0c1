-- When one constant is near another.
use Rattle.std.proofs.Common.{◌≡◌, ◌∙◌, ℕ, suc, ◌*◌, ◌<◌, true, false, ◌⊎◌, inl, inr, ap, sym, subst, arith, lit<, ℤ, pos}
use Rattle.std.proofs.Math.Nat.{one-dvd}
use Rattle.std.specs.Prelude.{negsuc, neg_ℤ, ◌+ℤ◌, ◌*ℤ◌}
use Rattle.std.specs.Int.RustNames.{unsigned_abs}
use Rattle.std.proofs.lemmas.Bool.{cases_lt}
use Rattle.frac_core.specs.declared.frac.TheConstants.{PART_BOUND}
use Rattle.frac_core.specs.Fraction.{Fraction, IsLowest, Fits, IsRatio, sum_num, sum_den}
use Rattle.frac_core.proofs.Integers.{diff-add, diff-mul, diff-pos, diff-neg, diff_eq, neg-pos, on_2, cancel_mul, mul_assoc_ℤ}
use Rattle.frac_core.proofs.Made.{same_fraction}
use Rattle.script_text.specs.Fractions.{lowest}
use Rattle.script_text.proofs.FractionLemmas.{lowest_is, lowest_ratio}
use Rattle.constraint_compile.specs.Compiled.{IsFittingSum}
use Rattle.compile_parts.specs.Fractions.{plus, negated}
use lib.IntN.{*ℤ_comm}

pub less-num : (a t : Fraction) → sum_num a (negsuc 0) (pos 1) t ≡ (plus a (negated t)).num
less-num a t =
    on_2 (λ x y. x *ℤ (pos 1 *ℤ pos t.den) +ℤ neg_ℤ (pos 1) *ℤ (y *ℤ pos a.den) ≡ x *ℤ pos t.den +ℤ neg_ℤ y *ℤ pos a.den) (λ x x' y y'. simp (neg-pos, diff-pos, diff-neg, diff-mul, diff-add) (diff_eq _ _ _ _ (omega arith))) a.num t.num

pub less-den : (a t : Fraction) → sum_den a (pos 1) t ≡ pos (plus a (negated t)).den
less-den a t = ap pos (let e : a.den * (1 * t.den) ≡ a.den * t.den = omega arith in e)

-- ---- whether a sum fits

-- the sum in lowest terms
record HasLowest (e : Fraction) : Type 0 where
  sum : Fraction
  lowest : IsLowest sum
  value : IsRatio sum e.num (pos e.den)

has-lowest : (n : ℤ) (d : ℕ) → 0 < d → HasLowest (record { num = n; den = d })
has-lowest (pos n) d above = record { sum = lowest false n d; lowest = lowest_is false n d above; value = lowest_ratio false n d above }
has-lowest (negsuc n) d above = record { sum = lowest true (suc n) d; lowest = lowest_is true (suc n) d above; value = lowest_ratio true (suc n) d above }

-- two fractions of one value over d have one value
one-value : (f g : Fraction) (n : ℤ) (d : ℕ) → 0 < d → f.num *ℤ pos d ≡ n *ℤ pos f.den → g.num *ℤ pos d ≡ n *ℤ pos g.den → f.num *ℤ pos g.den ≡ g.num *ℤ pos f.den
one-value f g n d above given_f given_g =
    cancel_mul d (f.num *ℤ pos g.den) (g.num *ℤ pos f.den) above
    (*ℤ_comm (pos d) (f.num *ℤ pos g.den) ∙ swap f.num (pos g.den) (pos d)
    ∙ ap (λ (z : ℤ). z *ℤ pos g.den) given_f ∙ swap n (pos f.den) (pos g.den)
    ∙ ap (λ (z : ℤ). z *ℤ pos f.den) (sym given_g) ∙ swap g.num (pos d) (pos f.den)
    ∙ *ℤ_comm (g.num *ℤ pos f.den) (pos d))
  where
    swap : (a u v : ℤ) → (a *ℤ u) *ℤ v ≡ (a *ℤ v) *ℤ u
    swap a u v = mul_assoc_ℤ a u v ∙ ap (λ (z : ℤ). a *ℤ z) (*ℤ_comm u v) ∙ sym (mul_assoc_ℤ a v u)

fits-or : (f : Fraction) → Fits f ⊎ (Fits f → ⊥)
fits-or f = elim (cases_lt (unsigned_abs f.num) PART_BOUND) [
  | inl num ↦ elim (cases_lt f.den PART_BOUND) [
    | inl den ↦ inl (record { num_fits = num; den_fits = den })
    | inr den ↦ inr (λ fits. omega (arith, den, fits.den_fits))
  ]
  | inr num ↦ inr (λ fits. omega (arith, num, fits.num_fits))
]

-- a sum that is not known not to fit fits
pub fits : (e : Fraction) → 0 < e.den → ((IsFittingSum e → ⊥) → ⊥) → IsFittingSum e
fits e above not_never =
    let h : HasLowest e = has-lowest e.num e.den above in
    elim (fits-or h.sum) [
      | inl fit ↦ record { sum = h.sum; lowest = h.lowest; fits = fit; value = h.value }
      | inr never ↦ absurd (not_never (λ (is : IsFittingSum e). never (same h is)))
    ]
  where
    same : (h : HasLowest e) (is : IsFittingSum e) → Fits h.sum
    same h is = rw (same_fraction h.sum is.sum h.lowest is.lowest (one-value h.sum is.sum e.num e.den above h.value is.value)) is.fits

-- a constant less itself is 0
pub still-near : (f g : Fraction) → f ≡ g → IsFittingSum (plus g (negated f))
still-near f g same = subst (λ (h : Fraction). IsFittingSum (plus h (negated f))) same (record {
  sum = record { num = pos 0; den = 1 };
  lowest = record { above = lit< tt; coprime = (one-dvd 0, one-dvd 1, λ d a b. b) };
  fits = record { num_fits = lit< tt; den_fits = lit< tt };
  value = on_2 (λ x y. pos 0 *ℤ pos (f.den * f.den) ≡ (x *ℤ pos f.den +ℤ neg_ℤ x *ℤ pos f.den) *ℤ pos 1) (λ x x' y y'. simp (neg-pos, diff-pos, diff-neg, diff-mul, diff-add) (diff_eq _ _ _ _ (omega arith))) f.num f.num;
})
