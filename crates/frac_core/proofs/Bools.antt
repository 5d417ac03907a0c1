-- Booleans: what is true isn't false, and counts by a Boolean.
use Rattle.std.proofs.Common.{Bool, ap, arith, cond, eq-eqb, false, nat_eq, ne_eqb, pos, refl, sym, true, ℕ, ℤ, ◌*ℤ◌, ◌||◌, ◌↔◌, ◌≡◌, ◌≢◌, ◌≤◌}
use Rattle.std.proofs.lemmas.Grind.{common_steps}
use Rattle.frac_core.proofs.Integers.{mul-zero_ℤ}

pub not-both : (b : Bool) → b ≡ true → b ≡ false → ⊥
not-both b e f = cc

pub bools-same : (b d : Bool) → (b ≡ true → d ≡ true) → (d ≡ true → b ≡ true) → b ≡ d
bools-same true d f g = sym (f refl)
bools-same false true f g = g refl
bools-same false false f g = refl

pub or-later : (b c : Bool) → c ≡ true → cond b true c ≡ true
or-later true c e = refl
or-later false c e = e

pub neither : (a b : Bool) → (a || b) ≡ false → (a ≡ false) × (b ≡ false)
neither true b none = absurd cc
neither false b none = (refl, none)

pub bit-most : (b : Bool) → cond b 1 0 ≤ 1
bit-most true = omega arith
bit-most false = omega arith

pub count-other : (a b : ℕ) (k : ℤ) → a ≢ b → cond (nat_eq a b) k (pos 0) ≡ pos 0
count-other a b k n = ap (λ (t : Bool). cond t k (pos 0)) (ne_eqb a b n)

pub true-not-false : true ≡ false → ⊥
true-not-false e = cc

pub iff-through : {A B C : Type 0} → A ↔ B → B ↔ C → A ↔ C
iff-through f g = (λ a. g.0 (f.0 a), λ c. f.1 (g.1 c))

pub nat_eq-self : (n : ℕ) → nat_eq n n ≡ true
nat_eq-self n = grind (arith, common_steps)

pub or-false : (b : Bool) → (b || false) ≡ b
or-false true = refl
or-false false = refl

pub count-same : (u v : ℕ) (k : ℤ) → u ≡ v → cond (nat_eq u v) k (pos 0) ≡ k
count-same u v k e = rw (eq-eqb u v e) refl

pub cond-mul : (b : Bool) (k x : ℤ) → cond b (k *ℤ x) (pos 0) ≡ k *ℤ cond b x (pos 0)
cond-mul true k x = refl
cond-mul false k x = sym (mul-zero_ℤ k)

pub false-not-true : false ≡ true → ⊥
false-not-true e = cc
