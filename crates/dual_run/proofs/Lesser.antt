-- Columns over their numbers, by the first level at which they differ.
use Rattle.std.proofs.Common.{◌≡◌, ◌∙◌, ◌⊎◌, inl, inr, ℕ, zero, suc, ◌<◌, ℤ, pos, negsuc, ◌+ℤ◌, ◌-ℤ◌, ◌*ℤ◌, ◌≤ℤ◌, ◌<ℤ◌, sym, ap, subst, arith, refl}
use Rattle.std.proofs.lemmas.Bool.{cases_eq}
use borrow.Author.Differences.{ints}
use Rattle.frac_core.proofs.Integers.{diff-add, diff-mul, diff-neg, diff-pos, neg-pos, on_3, diff_eq, mul_not_negative, mul-zero_ℤ, zero_from_mul}
use Rattle.problem_core.specs.Certificates.{IsLexNonnegative}
use Rattle.dual_run.specs.Entering.{IsLesser}
use Rattle.frac_core.proofs.Numbers.{minus-self-up as none-left, up-from}

ruleset ring = (diff-add, diff-mul, diff-neg, diff-pos, neg-pos)

crossed : (a b c : ℕ) (x y z : ℤ) → pos b *ℤ (pos a *ℤ z -ℤ pos c *ℤ x) ≡ pos a *ℤ (pos b *ℤ z -ℤ pos c *ℤ y) +ℤ pos c *ℤ (pos a *ℤ y -ℤ pos b *ℤ x)
crossed a b c = on_3 (λ x y z. pos b *ℤ (pos a *ℤ z -ℤ pos c *ℤ x) ≡ pos a *ℤ (pos b *ℤ z -ℤ pos c *ℤ y) +ℤ pos c *ℤ (pos a *ℤ y -ℤ pos b *ℤ x)) (λ x x' y y' z z'. simp ring (diff_eq _ _ _ _ (omega arith)))

-- two numbers that are not negative, of which multiples add up to 0
both-none : (a c : ℕ) (f h : ℤ) → 0 < a → 0 < c → pos 0 ≤ℤ f → pos 0 ≤ℤ h → pos a *ℤ h +ℤ pos c *ℤ f ≡ pos 0 → (f ≡ pos 0) × (h ≡ pos 0)
both-none a c f h up down g k e =
    let one : pos 0 ≤ℤ (pos c *ℤ f) = mul_not_negative c f g in
    let two : pos 0 ≤ℤ (pos a *ℤ h) = mul_not_negative a h k in
    let none : pos c *ℤ f ≡ pos 0 = omega (arith, ints, one, two, e) in
    let last : pos a *ℤ h ≡ pos 0 = omega (arith, ints, one, two, e) in
    (zero_from_mul c f down none, zero_from_mul a h up last)

-- b*g = a*h + c*f at each level
zeros : (a b c : ℕ) (f h g : ℕ → ℤ) → 0 < a → 0 < c → ((k : ℕ) → pos b *ℤ g k ≡ pos a *ℤ h k +ℤ pos c *ℤ f k) → IsLexNonnegative f → IsLexNonnegative h → (n : ℕ) → ((k : ℕ) → k < n → g k ≡ pos 0) → (k : ℕ) → k < n → (f k ≡ pos 0) × (h k ≡ pos 0)
zeros a b c f h g up down e first second zero none k less = absurd (omega (arith, less))
zeros a b c f h g up down e first second (suc n) none k less =
    let before : (j : ℕ) → j < n → (f j ≡ pos 0) × (h j ≡ pos 0) = zeros a b c f h g up down e first second n (λ j l. none j (omega (arith, l))) in
    elim (cases_eq k n) [
      | inl same ↦
          subst (λ (j : ℕ). (f j ≡ pos 0) × (h j ≡ pos 0)) (sym same)
          (both-none a c (f n) (h n) up down (first n (λ j l. (before j l).0)) (second n (λ j l. (before j l).1))
          (sym (e n) ∙ ap (λ (z : ℤ). pos b *ℤ z) (none n (omega arith)) ∙ mul-zero_ℤ (pos b)))
      | inr other ↦ before k (omega (arith, less, other))
    ]

lex-sum : (a b c : ℕ) (f h g : ℕ → ℤ) → 0 < a → 0 < b → 0 < c → ((k : ℕ) → pos b *ℤ g k ≡ pos a *ℤ h k +ℤ pos c *ℤ f k) → IsLexNonnegative f → IsLexNonnegative h → IsLexNonnegative g
lex-sum a b c f h g up middle down e first second n none =
    let before : (j : ℕ) → j < n → (f j ≡ pos 0) × (h j ≡ pos 0) = zeros a b c f h g up down e first second n none in
    let one : pos 0 ≤ℤ (pos c *ℤ f n) = mul_not_negative c (f n) (first n (λ j l. (before j l).0)) in
    let two : pos 0 ≤ℤ (pos a *ℤ h n) = mul_not_negative a (h n) (second n (λ j l. (before j l).1)) in
    let sum = e n in
    up-from b (g n) middle (omega (arith, ints, one, two, sum))

pub lesser_through : (costs : ℕ → ℕ → ℤ) (x y z : ℕ) (a b c : ℤ) → pos 0 <ℤ a → pos 0 <ℤ b → pos 0 <ℤ c → IsLesser costs x a y b → IsLesser costs y b z c → IsLesser costs x a z c
lesser_through costs x y z (pos a) (pos b) (pos c) up middle down f h =
    lex-sum a b c (λ k. pos a *ℤ costs k y -ℤ pos b *ℤ costs k x) (λ k. pos b *ℤ costs k z -ℤ pos c *ℤ costs k y) (λ k. pos a *ℤ costs k z -ℤ pos c *ℤ costs k x)
    (omega (arith, ints, up)) (omega (arith, ints, middle)) (omega (arith, ints, down)) (λ k. crossed a b c (costs k x) (costs k y) (costs k z)) f h
lesser_through costs x y z (negsuc a) b c up middle down f h = absurd (omega (arith, ints, up))
lesser_through costs x y z (pos a) (negsuc b) c up middle down f h = absurd (omega (arith, ints, middle))
lesser_through costs x y z (pos a) (pos b) (negsuc c) up middle down f h = absurd (omega (arith, ints, down))

pub lesser_self : (costs : ℕ → ℕ → ℤ) (x : ℕ) (a : ℤ) → IsLesser costs x a x a
lesser_self costs x a k none = none-left (a *ℤ costs k x)

-- numbers that are equal before a level, and at it the first is less
pub lex_at : (f : ℕ → ℤ) (n : ℕ) → ((k : ℕ) → k < n → f k ≡ pos 0) → pos 0 <ℤ f n → IsLexNonnegative f
lex_at f n before up k none =
    elim (order k n) [
      | inl less ↦ let e = before k less in omega (arith, ints, e)
      | inr (inl same) ↦ subst (λ (j : ℕ). pos 0 ≤ℤ f j) (sym same) (omega (arith, ints, up))
      | inr (inr more) ↦ let e = none n more in absurd (omega (arith, ints, e, up))
    ]
  where
    order : (a b : ℕ) → (a < b) ⊎ ((a ≡ b) ⊎ (b < a))
    order zero zero = inr (inl refl)
    order zero (suc b) = inl (omega arith)
    order (suc a) zero = inr (inr (omega arith))
    order (suc a) (suc b) = elim (order a b) [
      | inl h ↦ inl (omega (arith, h))
      | inr (inl h) ↦ inr (inl (ap suc h))
      | inr (inr h) ↦ inr (inr (omega (arith, h)))
    ]

pub lex_none : (f : ℕ → ℤ) → ((k : ℕ) → f k ≡ pos 0) → IsLexNonnegative f
lex_none f all k none = let e = all k in omega (arith, ints, e)

pub lex_same : (f g : ℕ → ℤ) → ((k : ℕ) → f k ≡ g k) → IsLexNonnegative g → IsLexNonnegative f
lex_same f g e up k none = subst (λ (z : ℤ). pos 0 ≤ℤ z) (sym (e k)) (up k (λ j less. sym (e j) ∙ none j less))

pub lex_times : (a : ℤ) (f : ℕ → ℤ) → pos 0 <ℤ a → IsLexNonnegative f → IsLexNonnegative (λ k. a *ℤ f k)
lex_times (negsuc a) f above up = absurd (omega (arith, ints, above))
lex_times (pos a) f above up = λ k none. mul_not_negative a (f k) (up k (λ j less. zero_from_mul a (f j) (omega (arith, ints, above)) (none j less)))
