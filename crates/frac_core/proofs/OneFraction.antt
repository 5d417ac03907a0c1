-- A value is one fraction in lowest terms.
use Rattle.std.proofs.Common.{◌≡◌, ℕ, ◌*◌, ◌<◌, sym, ap, ◌∙◌, arith, mul-pos}
use Rattle.std.specs.Prelude.{ℤ, pos, ◌*ℤ◌}
use Rattle.frac_core.specs.Fraction.{Fraction}
use Rattle.frac_core.proofs.Integers.{cancel_mul, mul_left_comm_ℤ}

abbrev over : ℤ → ℕ → Fraction
over n d = record { num = n; den = d }

shuffle : (z : ℤ) (m r n s : ℕ) → m * r ≡ n * s → pos m *ℤ (z *ℤ pos r) ≡ pos n *ℤ (z *ℤ pos s)
shuffle z m r n s h = mul_left_comm_ℤ (pos m) z (pos r) ∙ ap (λ (k : ℕ). z *ℤ pos k) h
    ∙ sym (mul_left_comm_ℤ (pos n) z (pos s))

-- x's fraction for a value a/d, and y's for b/e, where the values are the same
pub one_value : (f g : Fraction) (a b : ℤ) (d e : ℕ) → 0 < d → 0 < e → a *ℤ pos f.den ≡ f.num *ℤ pos d
    → b *ℤ pos g.den ≡ g.num *ℤ pos e
    → a *ℤ pos e ≡ b *ℤ pos d → f.num *ℤ pos g.den ≡ g.num *ℤ pos f.den
one_value f g a b d e some_d some_e given_f given_g same =
    cancel_mul (d * e) (f.num *ℤ pos g.den) (g.num *ℤ pos f.den) (mul-pos some_d some_e)
    (shuffle f.num (d * e) g.den (e * g.den) d (omega arith)
    ∙ ap (λ (z : ℤ). pos (e * g.den) *ℤ z) (sym given_f)
    ∙ shuffle a (e * g.den) f.den (f.den * g.den) e (omega arith)
    ∙ ap (λ (z : ℤ). pos (f.den * g.den) *ℤ z) same
    ∙ shuffle b (f.den * g.den) d (d * f.den) g.den (omega arith)
    ∙ ap (λ (z : ℤ). pos (d * f.den) *ℤ z) given_g
    ∙ shuffle g.num (d * f.den) e (d * e) f.den (omega arith))
