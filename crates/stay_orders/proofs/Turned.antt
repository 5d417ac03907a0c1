-- Only a column with a cost at a stay that comes first may turn.
use Rattle.std.proofs.Common.{◌≡◌, ℕ, arith, Bool, true, false, cond, int_eq, not, List, [], ◌∷◌, ◌++◌, refl, filter, sym, ap, subst, ◌∙◌, ℤ, pos, suc}
use Rattle.std.specs.List.{AllByRecursion as Each}
use Rattle.std.specs.Prelude.{All, Contains}
use Rattle.std.proofs.lemmas.List.Elements.{recursion_from_All}
use Rattle.problem_core.proofs.Forms.{each-impl}
use Rattle.problem_core.specs.declared.parts.Stay.{Stay}
use Rattle.stay_orders.specs.Orders.{is_of, with_front}
use Rattle.stay_orders.specs.Turned.{first_cost}
use Rattle.stay_orders.proofs.Orders.{front_each}
use Rattle.stay_orders.proofs.Wholes.{same_number}

-- what costs nothing isn't the first cost
skip : (f : Stay → ℤ) (xs ys : List Stay) → Each (λ s. f s ≡ pos 0) xs → first_cost f (xs ++ ys) ≡ first_cost f ys
skip f [] ys h = refl
skip f (x ∷ xs) ys h = subst (λ (z : ℤ). cond (int_eq z (pos 0)) (first_cost f (xs ++ ys)) z ≡ first_cost f ys) (sym h.0) (skip f xs ys h.1)

left_out : (f : Stay → ℤ) (x : Stay) (xs ys : List Stay) (b : Bool) → (b ≡ true → f x ≡ pos 0) → first_cost f ys ≡ first_cost f xs
    → first_cost f (cond (not b) (x ∷ ys) ys) ≡ first_cost f (x ∷ xs)
left_out f x xs ys true h e = subst (λ (z : ℤ). first_cost f ys ≡ cond (int_eq z (pos 0)) (first_cost f xs) z) (sym (h refl)) e
left_out f x xs ys false h e = ap (λ (z : ℤ). cond (int_eq (f x) (pos 0)) z (f x)) e

-- those of an attribute cost nothing
abbrev Free : (Stay → ℤ) → ℕ → Stay → Type 0
Free f a s = is_of a s ≡ true → f s ≡ pos 0

others : (f : Stay → ℤ) (a : ℕ) (xs : List Stay) → Each (Free f a) xs → first_cost f (filter (λ s. not (is_of a s)) xs) ≡ first_cost f xs
others f a [] h = refl
others f a (x ∷ xs) h = left_out f x xs (filter (λ s. not (is_of a s)) xs) (is_of a x) h.0 (others f a xs h.1)

taken : (f : Stay → ℤ) (x : Stay) (ys : List Stay) (b : Bool) → (b ≡ true → f x ≡ pos 0) → Each (λ s. f s ≡ pos 0) ys → Each (λ s. f s ≡ pos 0) (cond b (x ∷ ys) ys)
taken f x ys true h rest = (h refl, rest)
taken f x ys false h rest = rest

zeros : (f : Stay → ℤ) (a : ℕ) (xs : List Stay) → Each (Free f a) xs → Each (λ s. f s ≡ pos 0) (filter (is_of a) xs)
zeros f a [] h = tt
zeros f a (x ∷ xs) h = taken f x (filter (is_of a) xs) (is_of a x) h.0 (zeros f a xs h.1)

pub turns : (f : Stay → ℤ) (attrs : List ℕ) (stays : List Stay) → Each (λ s. Contains attrs s.attr → f s ≡ pos 0) stays
    → first_cost f (with_front attrs stays) ≡ first_cost f stays
turns f [] stays h = refl
turns f (a ∷ more) stays h =
    let rest = with_front more stays in
    let own : Each (Free f a) stays = each-impl (λ s. Contains (a ∷ more) s.attr → f s ≡ pos 0) (Free f a) stays
    (λ s g e. g (subst (λ (n : ℕ). Contains (a ∷ more) n) (sym (same_number s.attr a e)) (0, omega arith, refl))) h in
    let all : Each (Free f a) rest = front_each (Free f a) more stays own in
    let later : Each (λ s. Contains more s.attr → f s ≡ pos 0) stays =
    each-impl (λ s. Contains (a ∷ more) s.attr → f s ≡ pos 0) (λ s. Contains more s.attr → f s ≡ pos 0) stays
    (λ s g i. g (suc i.0, omega (arith, i.1), i.2)) h in
    skip f (filter (is_of a) rest) (filter (λ s. not (is_of a s)) rest) (zeros f a rest all)
    ∙ others f a rest all ∙ turns f more stays later
