-- Sums over lists that grow.
use Rattle.std.proofs.Common.{◌≡◌, ◌++◌, List, [], ◌∷◌, ℤ, ◌+ℤ◌, ap, ◌∙◌, arith}
use borrow.Author.Differences.{ints}
use Rattle.frac_core.proofs.Integers.{add-zero_ℤ}
use Rattle.frac_core.specs.Sums.{sum_of}

pub sum-append : {A : Type 0} (f : A → ℤ) (xs ys : List A) → sum_of f (xs ++ ys) ≡ sum_of f xs +ℤ sum_of f ys
sum-append f [] ys = omega (arith, ints)
sum-append f (x ∷ xs) ys = omega (arith, ints, sum-append f xs ys)

pub sum-push : {A : Type 0} (f : A → ℤ) (xs : List A) (x : A) → sum_of f (xs ++ x ∷ []) ≡ sum_of f xs +ℤ f x
sum-push f xs x = sum-append f xs (x ∷ []) ∙ ap (λ (t : ℤ). sum_of f xs +ℤ t) (add-zero_ℤ (f x))
