-- A side that is there or not, and values looked up.
use Rattle.std.proofs.Common.{Any, [], Bool, List, None, Option, Some, ap, arith, cond, eq-eqb, get_or, lit<, ne_eqb, subst, suc, sym, zero, ℕ, ◌<◌, ◌∙◌, ◌∷◌, ◌≡◌}
use Rattle.std.proofs.Math.Nat.{one-dvd}
use Rattle.frac_core.specs.Fraction.{Fraction, IsKept, IsLowest}
use Rattle.problem_core.specs.Gaps.{value_of}
use Rattle.problem_core.specs.Kept.{AreRising}
use Rattle.problem_core.specs.Window.{zero_fraction}
use Rattle.problem_core.specs.declared.parts.Side.{Side}

pub none-not-some : (s : Side) → None ≡ Some s → ⊥
none-not-some s e = subst is_none_type e tt
  where
    is_none_type : Option Side → Type 0
    is_none_type None = Unit {0}
    is_none_type (Some t) = ⊥

pub zero-kept : IsKept zero_fraction
zero-kept = record {
  lowest = record { above = lit< tt; coprime = (one-dvd 0, one-dvd 1, λ d a b. b) };
  fits = record { num_fits = lit< tt; den_fits = lit< tt };
}

pub some-same : (a b : Side) → Some a ≡ Some b → a ≡ b
some-same a b e = ap (λ (o : Option Side). of o) e
  where
    of : Option Side → Side
    of None = a
    of (Some s) = s

pub zero-lowest : IsLowest zero_fraction
zero-lowest = record { above = lit< tt; coprime = (one-dvd 0, one-dvd 1, λ d a b. b) }

-- the value that is read is the attribute's
pub value-is : (values : List (ℕ × Fraction)) (attr : ℕ) (f : Fraction) → AreRising values → Any (λ v. (v.0 ≡ attr) × (v.1 ≡ f)) values → f ≡ value_of values attr
value-is [] attr f rising (k, w, within, is, e) = absurd (omega (arith, within))
value-is (v ∷ values) attr f rising (zero, w, within, is, e) =
    sym (ap (λ (u : ℕ × Fraction). u.1) is ∙ e.1) ∙ sym (ap (λ (b : Bool). cond b v.1 (value_of values attr)) (eq-eqb v.0 attr (ap (λ (u : ℕ × Fraction). u.0) is ∙ e.0)))
value-is (v ∷ values) attr f rising (suc k, w, within, is, e) =
    let less : v.0 < (get_or values k w).0 = rising 0 (suc k) w (omega arith) (omega (arith, within)) in
    let same : (get_or values k w).0 ≡ attr = ap (λ (u : ℕ × Fraction). u.0) is ∙ e.0 in
    value-is values attr f (λ i j d m n. rising (suc i) (suc j) d (omega (arith, m)) (omega (arith, n))) (k, w, omega (arith, within), is, e)
    ∙ sym (ap (λ (b : Bool). cond b v.1 (value_of values attr)) (ne_eqb v.0 attr (λ q. absurd (omega (arith, q, less, same)))))
