-- An assignment that gives all values.
use Rattle.std.proofs.Common.{◌≡◌, ℕ, zero, suc, ◌*◌, ◌<◌, cond, nat_eq, Bool, List, [], ◌∷◌, length, get_or, ℤ, pos, ◌*ℤ◌, refl, sym, ap, ◌∙◌, arith, All, AllPairs, eq-eqb, ne_eqb}
use Rattle.frac_core.specs.Fraction.{Fraction}
use Rattle.frac_core.proofs.Integers.{mul_assoc_ℤ}
use Rattle.problem_core.specs.Layout.{Assignment, Gives}
use Rattle.frac_core.proofs.Numbers.{product-above as some_product}

with-value : (v : ℕ × Fraction) → 0 < v.1.den → Assignment → Assignment
with-value v some x = record {
  den = x.den * v.1.den;
  num = λ a. cond (nat_eq v.0 a) (v.1.num *ℤ pos x.den) (x.num a *ℤ pos v.1.den);
  positive = some_product x.den v.1.den x.positive some;
}

first-given : (z : ℤ) (e d : ℕ) → (z *ℤ pos e) *ℤ pos d ≡ z *ℤ pos (e * d)
first-given z e d = mul_assoc_ℤ z (pos e) (pos d)

other-given : (n z : ℤ) (w e d : ℕ) → n *ℤ pos w ≡ z *ℤ pos e → (n *ℤ pos d) *ℤ pos w ≡ z *ℤ pos (e * d)
other-given n z w e d h =
    mul_assoc_ℤ n (pos d) (pos w) ∙ ap (λ (k : ℕ). n *ℤ pos k) (let q : d * w ≡ w * d = omega arith in q) ∙ sym (mul_assoc_ℤ n (pos w) (pos d)) ∙ ap (λ (t : ℤ). t *ℤ pos d) h ∙ mul_assoc_ℤ z (pos e) (pos d)

more-given : (v w : ℕ × Fraction) (some : 0 < v.1.den) (x : Assignment) → v.0 < w.0 → x.num w.0 *ℤ pos w.1.den ≡ w.1.num *ℤ pos x.den → (with-value v some x).num w.0 *ℤ pos w.1.den ≡ w.1.num *ℤ pos (with-value v some x).den
unfolding with-value
more-given v w some x l h =
    ap (λ (b : Bool). cond b (v.1.num *ℤ pos x.den) (x.num w.0 *ℤ pos v.1.den) *ℤ pos w.1.den) (ne_eqb v.0 w.0 (λ e. omega (arith, l, e)))
    ∙ other-given (x.num w.0) w.1.num w.1.den x.den v.1.den h

here-given : (v : ℕ × Fraction) (some : 0 < v.1.den) (x : Assignment) → (with-value v some x).num v.0 *ℤ pos v.1.den ≡ v.1.num *ℤ pos (with-value v some x).den
unfolding with-value
here-given v some x =
    ap (λ (b : Bool). cond b (v.1.num *ℤ pos x.den) (x.num v.0 *ℤ pos v.1.den) *ℤ pos v.1.den) (eq-eqb v.0 v.0 refl) ∙ first-given v.1.num x.den v.1.den

gives-more : (v : ℕ × Fraction) (values : List (ℕ × Fraction)) (some : 0 < v.1.den) (x : Assignment) → All (λ w. v.0 < w.0) values → Gives values x → Gives (v ∷ values) (with-value v some x)
gives-more v values some x less gives zero d l = here-given v some x
gives-more v values some x less gives (suc i) d l =
    let m : i < length values = omega (arith, l) in
    more-given v (get_or values i d) some x (less i d m) (gives i d m)

pub some-Gives : (values : List (ℕ × Fraction)) → AllPairs (λ u v. u.0 < v.0) values → All (λ v. 0 < v.1.den) values → (x : Assignment) × Gives values x
some-Gives [] rising some = (record { den = 1; num = λ v. pos 0; positive = omega arith }, λ i d l. absurd (omega (arith, l)))
some-Gives (v ∷ values) rising some =
    let (x, gives) = some-Gives values (λ i j d l m. rising (suc i) (suc j) d (omega (arith, l)) (omega (arith, m))) (λ i d l. some (suc i) d (omega (arith, l))) in
    (with-value v (some 0 v (omega arith)) x, gives-more v values (some 0 v (omega arith)) x (λ i d l. rising 0 (suc i) d (omega arith) (omega (arith, l))) gives)
