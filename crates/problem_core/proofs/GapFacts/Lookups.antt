-- The value of an attribute, one pair at a time.
use Rattle.std.proofs.Common.{◌≡◌, ℕ, zero, suc, ◌+◌, ◌<◌, ◌≤◌, Bool, true, false, cond, nat_eq, List, [], ◌∷◌, length, drop, get_or, refl, ap, ◌∙◌, arith, subst, pos, ◌*ℤ◌, eqb-true, eq-eqb, ne_eqb}
use Rattle.frac_core.specs.Fraction.{Fraction}
use Rattle.problem_core.specs.Window.{zero_fraction}
use Rattle.problem_core.specs.Layout.{Assignment}
use Rattle.problem_core.specs.Gaps.{value_of, HasValue}
use Rattle.std.specs.List.{AllByRecursion as Each}
use Rattle.std.proofs.lemmas.Bool.{eqb-false}

pub look-at : (values : List (ℕ × Fraction)) (i attr : ℕ) (d : ℕ × Fraction) → i < length values → (get_or values i d).0 ≡ attr → value_of (drop i values) attr ≡ (get_or values i d).1
look-at [] i attr d l e = absurd (omega (arith, l))
look-at (v ∷ values) zero attr d l e = ap (λ (b : Bool). cond b v.1 (value_of values attr)) (eq-eqb v.0 attr e)
look-at (v ∷ values) (suc i) attr d l e = look-at values i attr d (omega (arith, l)) e

pub look-next : (values : List (ℕ × Fraction)) (i attr : ℕ) (d : ℕ × Fraction) → i < length values → ((get_or values i d).0 ≡ attr → ⊥) → value_of (drop i values) attr ≡ value_of (drop (i + 1) values) attr
look-next [] i attr d l e = absurd (omega (arith, l))
look-next (v ∷ values) zero attr d l e = ap (λ (b : Bool). cond b v.1 (value_of values attr)) (ne_eqb v.0 attr e)
look-next (v ∷ values) (suc i) attr d l e =
    look-next values i attr d (omega (arith, l)) e ∙ ap (λ (n : ℕ). value_of (drop n (v ∷ values)) attr) (let q : suc (i + 1) ≡ suc i + 1 = omega arith in q)

pub look-end : (values : List (ℕ × Fraction)) (i attr : ℕ) → length values ≤ i → value_of (drop i values) attr ≡ zero_fraction
look-end [] zero attr l = refl
look-end [] (suc i) attr l = refl
look-end (v ∷ values) zero attr l = absurd (omega (arith, l))
look-end (v ∷ values) (suc i) attr l = look-end values i attr (omega (arith, l))

-- ---- what an assignment gives

given_here : (x : Assignment) (u : ℕ × Fraction) (f : Fraction) (v : ℕ) (b : Bool) → nat_eq u.0 v ≡ b → x.num u.0 *ℤ pos u.1.den ≡ u.1.num *ℤ pos x.den → ((u.0 ≡ v → ⊥) → x.num v *ℤ pos f.den ≡ f.num *ℤ pos x.den) → x.num v *ℤ pos (cond b u.1 f).den ≡ (cond b u.1 f).num *ℤ pos x.den
given_here x u f v true e h k = subst (λ (n : ℕ). x.num n *ℤ pos u.1.den ≡ u.1.num *ℤ pos x.den) (eqb-true u.0 v e) h
given_here x u f v false e h k = k (eqb-false u.0 v e)

rest-has : (u : ℕ × Fraction) (values : List (ℕ × Fraction)) (v : ℕ) → HasValue (u ∷ values) v → (u.0 ≡ v → ⊥) → HasValue values v
rest-has u values v (zero, t, l, is, attr) n = absurd (n (ap (λ (t : ℕ × Fraction). t.0) is ∙ attr))
rest-has u values v (suc k, t, l, is, attr) n = (k, t, omega (arith, l), is, attr)

pub given-value : (x : Assignment) (values : List (ℕ × Fraction)) (v : ℕ) → Each (λ u. x.num u.0 *ℤ pos u.1.den ≡ u.1.num *ℤ pos x.den) values → HasValue values v → x.num v *ℤ pos (value_of values v).den ≡ (value_of values v).num *ℤ pos x.den
given-value x [] v h (k, t, l, is, attr) = absurd (omega (arith, l))
given-value x (u ∷ values) v h has =
    given_here x u (value_of values v) v (nat_eq u.0 v) refl h.0 (λ n. given-value x values v h.1 (rest-has u values v has n))
