-- A number put in its place among rising ones.
use Rattle.std.proofs.Common.{ℕ, zero, suc, ◌<◌, ◌≤◌, List, [], ◌∷◌, length, get_or, All, AllPairs, arith}
use Rattle.std.specs.List.{insert}
use Rattle.std.proofs.lemmas.List.Elements.{All-cons}
use Rattle.std.proofs.lemmas.List.Kept.{AllPairs-cons}

tail_of : {A : Type 0} (P : A → Type 0) (x : A) (xs : List A) → All P (x ∷ xs) → All P xs
tail_of P x xs all = λ k d within. all (suc k) d (omega (arith, within))

pub all_of_insert : (P : ℕ → Type 0) (xs : List ℕ) (i a : ℕ) → i ≤ length xs → All P (insert xs i a) → All P xs × P a
all_of_insert P [] zero a within all = ((λ k d h. absurd (omega (arith, h))), all zero a (omega arith))
all_of_insert P (x ∷ xs) zero a within all = (tail_of P a (x ∷ xs) all, all zero a (omega arith))
all_of_insert P [] (suc i) a within all = absurd (omega (arith, within))
all_of_insert P (x ∷ xs) (suc i) a within all =
    let rest = all_of_insert P xs i a (omega (arith, within)) (tail_of P x (insert xs i a) all) in
    (All-cons P x xs (all zero x (omega arith)) rest.0, rest.1)

all_insert : (P : ℕ → Type 0) (xs : List ℕ) (i a : ℕ) → i ≤ length xs → All P xs → P a → All P (insert xs i a)
all_insert P [] zero a within all here = All-cons P a [] here all
all_insert P (x ∷ xs) zero a within all here = All-cons P a (x ∷ xs) here all
all_insert P [] (suc i) a within all here = absurd (omega (arith, within))
all_insert P (x ∷ xs) (suc i) a within all here = All-cons P x (insert xs i a) (all zero x (omega arith)) (all_insert P xs i a (omega (arith, within)) (tail_of P x xs all) here)

abbrev pub IsRising : List ℕ → Type 0
IsRising xs = AllPairs (λ a b. a < b) xs

rising_tail : (x : ℕ) (xs : List ℕ) → IsRising (x ∷ xs) → IsRising xs
rising_tail x xs rising = λ i j d less within. rising (suc i) (suc j) d (omega (arith, less)) (omega (arith, within))

head_below : (x : ℕ) (xs : List ℕ) → IsRising (x ∷ xs) → All (λ y. x < y) xs
head_below x xs rising = λ k d within. rising zero (suc k) d (omega arith) (omega (arith, within))

-- all that follows a number above a is above a
all_above : (a x : ℕ) (xs : List ℕ) → IsRising (x ∷ xs) → a < x → All (λ y. a < y) (x ∷ xs)
all_above a x xs rising less = All-cons (λ y. a < y) x xs less (λ k d within. omega (arith, less, head_below x xs rising k d within))

pub rising_insert : (xs : List ℕ) (i a : ℕ) → i ≤ length xs → IsRising xs → ((k d : ℕ) → k < i → get_or xs k d < a) → ((d : ℕ) → i < length xs → a < get_or xs i d) → IsRising (insert xs i a)
rising_insert [] zero a within rising below above = AllPairs-cons (λ s t. s < t) a [] (λ k d h. absurd (omega (arith, h))) rising
rising_insert (x ∷ xs) zero a within rising below above = AllPairs-cons (λ s t. s < t) a (x ∷ xs) (all_above a x xs rising (above x (omega arith))) rising
rising_insert [] (suc i) a within rising below above = absurd (omega (arith, within))
rising_insert (x ∷ xs) (suc i) a within rising below above =
    AllPairs-cons (λ s t. s < t) x (insert xs i a) (all_insert (λ y. x < y) xs i a (omega (arith, within)) (head_below x xs rising) (below zero x (omega arith)))
    (rising_insert xs i a (omega (arith, within)) (rising_tail x xs rising) (λ k d h. below (suc k) d (omega (arith, h))) (λ d h. above d (omega (arith, h))))
