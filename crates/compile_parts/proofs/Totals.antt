-- Sums of fractions.
use Rattle.std.proofs.Common.{◌≡◌, ℕ, ◌+◌, ◌*◌, ◌<◌, List, [], ◌∷◌, ◌++◌, length, take, get_or, ℤ, pos, ◌+ℤ◌, ◌*ℤ◌, refl, sym, ap, ◌∙◌, arith}
use borrow.Author.Differences.{ints}
use Rattle.std.proofs.lemmas.List.{take_more}
use Rattle.frac_core.specs.Fraction.{Fraction}
use Rattle.frac_core.proofs.Integers.{on_3, diff_eq, diff-add, diff-mul, diff-pos}
use Rattle.problem_core.specs.Window.{zero_fraction}
use Rattle.compile_parts.specs.Fractions.{plus, total}

made : (a b : ℤ) (d e : ℕ) → a ≡ b → d ≡ e → record { num = a; den = d } ≡ (let f : Fraction = record { num = b; den = e } in f)
made a b d e num den = rw (num, den) refl

nums_assoc : (a b c : ℤ) (d e f : ℕ) → (a *ℤ pos e +ℤ b *ℤ pos d) *ℤ pos f +ℤ c *ℤ pos (d * e) ≡ a *ℤ pos (e * f) +ℤ (b *ℤ pos f +ℤ c *ℤ pos e) *ℤ pos d
nums_assoc a b c d e f = on_3 (λ a b c. (a *ℤ pos e +ℤ b *ℤ pos d) *ℤ pos f +ℤ c *ℤ pos (d * e) ≡ a *ℤ pos (e * f) +ℤ (b *ℤ pos f +ℤ c *ℤ pos e) *ℤ pos d) (λ a a' b b' c c'. simp (diff-add, diff-mul, diff-pos) (diff_eq _ _ _ _ (omega arith))) a b c

pub plus_assoc : (f g h : Fraction) → plus (plus f g) h ≡ plus f (plus g h)
plus_assoc f g h = made _ _ _ _ (nums_assoc f.num g.num h.num f.den g.den h.den) (let e : f.den * g.den * h.den ≡ f.den * (g.den * h.den) = omega arith in e)

pub plus-zero : (f : Fraction) → plus f zero_fraction ≡ f
plus-zero f = made _ _ _ _ (let e : f.num *ℤ pos 1 +ℤ pos 0 *ℤ pos f.den ≡ f.num = omega (arith, ints) in e) (let e : f.den * 1 ≡ f.den = omega arith in e)

zero-plus : (f : Fraction) → plus zero_fraction f ≡ f
zero-plus f = made _ _ _ _ (let e : pos 0 *ℤ pos f.den +ℤ f.num *ℤ pos 1 ≡ f.num = omega (arith, ints) in e) (let e : 1 * f.den ≡ f.den = omega arith in e)

pub total_pushed : {A : Type 0} (f : A → Fraction) (xs : List A) (x : A) → total f (xs ++ x ∷ []) ≡ plus (total f xs) (f x)
total_pushed f [] x = plus-zero (f x) ∙ sym (zero-plus (f x))
total_pushed f (y ∷ xs) x = ap (plus (f y)) (total_pushed f xs x) ∙ sym (plus_assoc (f y) (total f xs) (f x))

-- one term more
pub total_more : {A : Type 0} (f : A → Fraction) (xs : List A) (i : ℕ) (d : A) → i < length xs → total f (take (i + 1) xs) ≡ plus (total f (take i xs)) (f (get_or xs i d))
total_more f xs i d within = ap (total f) (take_more xs i d within) ∙ total_pushed f (take i xs) (get_or xs i d)
