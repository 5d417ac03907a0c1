-- The rows without one, and the stays without one, by place and by number.
use Rattle.std.proofs.Common.{◌≡◌, ◌≢◌, ◌∙◌, ℕ, zero, suc, ◌<◌, Bool, true, false, cond, nat_eq, List, [], ◌∷◌, ne_eqb, eq-eqb, length, slice_index_or, refl, sym, ap, arith, AllPairs}
use Rattle.std.specs.List.{AllByRecursion as Each, filter, remove}
use Rattle.std.proofs.lemmas.List.Elements.{recursion_from_All}
use Rattle.problem_core.proofs.Forms.{each-impl}
use Rattle.frac_core.proofs.Lists.{pairs-rest}
use Rattle.corner_laws.proofs.Counting.{head_pairs as pairs-first}

-- what doesn't have the number passes
abbrev pub other_than : {X : Type 0} → (X → ℕ) → ℕ → X → Bool
other_than f id x = cond (nat_eq (f x) id) false true

on : {X : Type 0} (f : X → ℕ) (id : ℕ) (x : X) (xs : List X) → f x ≡ id → filter (other_than f id) (x ∷ xs) ≡ filter (other_than f id) xs
on f id x xs e = ap (λ (b : Bool). cond (cond b false true) (x ∷ filter (other_than f id) xs) (filter (other_than f id) xs)) (eq-eqb (f x) id e)

off : {X : Type 0} (f : X → ℕ) (id : ℕ) (x : X) (xs : List X) → f x ≢ id → filter (other_than f id) (x ∷ xs) ≡ x ∷ filter (other_than f id) xs
off f id x xs n = ap (λ (b : Bool). cond (cond b false true) (x ∷ filter (other_than f id) xs) (filter (other_than f id) xs)) (ne_eqb (f x) id n)

all-pass : {X : Type 0} (f : X → ℕ) (id : ℕ) (xs : List X) → Each (λ x. f x ≢ id) xs → filter (other_than f id) xs ≡ xs
all-pass f id [] h = refl
all-pass f id (x ∷ xs) h = off f id x xs h.0 ∙ ap (λ ys. x ∷ ys) (all-pass f id xs h.1)

each-at : {X : Type 0} (P : X → Type 0) (xs : List X) (i : ℕ) → i < length xs → Each P xs → (d : X) → P (slice_index_or xs i d)
each-at P [] i lt h d = absurd (omega (arith, lt))
each-at P (x ∷ xs) zero lt h d = h.0
each-at P (x ∷ xs) (suc i) lt h d = each-at P xs i (omega (arith, lt)) h.1 d

-- where numbers are all different, the one at the place alone goes
pub removed : {X : Type 0} (f : X → ℕ) (id : ℕ) (xs : List X) (i : ℕ) → AllPairs (λ a b. f a ≢ f b) xs → i < length xs → ((d : X) → f (slice_index_or xs i d) ≡ id) → remove xs i ≡ filter (other_than f id) xs
removed f id [] i apart lt is = absurd (omega (arith, lt))
removed f id (x ∷ xs) zero apart lt is =
    sym (on f id x xs (is x) ∙ all-pass f id xs (each-impl (λ b. f x ≢ f b) (λ b. f b ≢ id) xs (λ b ne e. ne (is x ∙ sym e)) (recursion_from_All (λ b. f x ≢ f b) xs (pairs-first (λ a b. f a ≢ f b) x xs apart))))
removed f id (x ∷ xs) (suc i) apart lt is =
    ap (λ ys. x ∷ ys) (removed f id xs i (pairs-rest (λ a b. f a ≢ f b) x xs apart) (omega (arith, lt)) (λ d. is d))
    ∙ sym (off f id x xs (λ e. each-at (λ b. f x ≢ f b) xs i (omega (arith, lt)) (recursion_from_All (λ b. f x ≢ f b) xs (pairs-first (λ a b. f a ≢ f b) x xs apart)) x (e ∙ sym (is x))))
