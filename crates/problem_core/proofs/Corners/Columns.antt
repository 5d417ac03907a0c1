-- Columns that are lexicographically not negative: sums and multiples of such are such again.
use Rattle.std.proofs.Common.{◌≡◌, ℕ, zero, suc, ◌<◌, List, [], ◌∷◌, ℤ, pos, ◌+ℤ◌, ◌*ℤ◌, ◌≤ℤ◌, subst, ◌∙◌, inl, inr, arith}
use Rattle.std.specs.List.{AllByRecursion as Each}
use Rattle.std.proofs.lemmas.Bool.{cases_eq}
use lib.IntN.{*ℤ_comm}
use borrow.Author.Differences.{ints}
use Rattle.problem_core.specs.Layout.{sum_of}
use Rattle.problem_core.specs.Certificates.{IsLexNonnegative}
use Rattle.frac_core.proofs.Integers.{zero_from_mul, mul_not_negative, zero-mul_ℤ}

pub zeros : (f g : ℕ → ℤ) → IsLexNonnegative f → IsLexNonnegative g → (level : ℕ) → ((k : ℕ) → k < level → f k +ℤ g k ≡ pos 0) → (k : ℕ) → k < level → (f k ≡ pos 0) × (g k ≡ pos 0)
zeros f g p q zero h k l = absurd (omega arith)
zeros f g p q (suc n) h k l =
    let before : (j : ℕ) → j < n → (f j ≡ pos 0) × (g j ≡ pos 0) = zeros f g p q n (λ j m. h j (omega arith)) in
    elim (cases_eq k n) [
      | inl e ↦
          let first : pos 0 ≤ℤ f n = p n (λ j m. (before j m).0) in
          let second : pos 0 ≤ℤ g n = q n (λ j m. (before j m).1) in
          let both : f n +ℤ g n ≡ pos 0 = h n (omega arith) in
          rw e (omega (arith, ints, first, second, both), omega (arith, ints, first, second, both))
      | inr e ↦ before k (omega arith)
    ]

pub lex-add : (f g : ℕ → ℤ) → IsLexNonnegative f → IsLexNonnegative g → IsLexNonnegative (λ k. f k +ℤ g k)
lex-add f g p q level h =
    let before : (k : ℕ) → k < level → (f k ≡ pos 0) × (g k ≡ pos 0) = zeros f g p q level h in
    let first : pos 0 ≤ℤ f level = p level (λ k l. (before k l).0) in
    let second : pos 0 ≤ℤ g level = q level (λ k l. (before k l).1) in
    omega (arith, ints, first, second)

pub lex-mul : (n : ℕ) (f : ℕ → ℤ) → IsLexNonnegative f → IsLexNonnegative (λ k. pos n *ℤ f k)
lex-mul zero f p level h = rw (zero-mul_ℤ (f level)) (omega (arith, ints))
lex-mul (suc n) f p level h = mul_not_negative (suc n) (f level) (p level (λ k l. zero_from_mul (suc n) (f k) (omega arith) (h k l)))

pub lex-mul_right : (n : ℕ) (f : ℕ → ℤ) → IsLexNonnegative f → IsLexNonnegative (λ k. f k *ℤ pos n)
lex-mul_right n f p level h =
    subst (λ (t : ℤ). pos 0 ≤ℤ t) (*ℤ_comm (pos n) (f level)) (lex-mul n f p level (λ k l. *ℤ_comm (pos n) (f k) ∙ h k l))

pub lex-sum : {A : Type 0} (f : A → ℕ → ℤ) (xs : List A) → Each (λ x. IsLexNonnegative (f x)) xs → IsLexNonnegative (λ k. sum_of (λ x. f x k) xs)
lex-sum f [] h level z = omega (arith, ints)
lex-sum f (x ∷ xs) h level z = lex-add (f x) (λ k. sum_of (λ y. f y k) xs) h.0 (lex-sum f xs h.1) level z
