-- Lists whose keys rise, and what holds along a map.
use Rattle.std.proofs.Common.{◌≡◌, ℕ, zero, suc, ◌<◌, ◌≤◌, List, [], ◌∷◌, ◌++◌, map, sym, subst, arith, ◌⊎◌, inl, inr, All, AllPairs}
use Rattle.std.specs.List.{Contains}
use Rattle.std.proofs.lemmas.Bool.{cases_eq}
use Rattle.std.proofs.lemmas.List.{length-map, get_or-map}
use Rattle.std.proofs.lemmas.List.Elements.{All-from_recursion, All-append, All-head, All-tail, All-weaker}
use Rattle.frac_core.proofs.Lists.{pairs-nil, pairs-rest as pairs-tail}

-- ---- pairs

pub pairs-cons : {X : Type 0} (R : X → X → Type 0) (x : X) (xs : List X) → All (R x) xs → AllPairs R xs → AllPairs R (x ∷ xs)
pairs-cons R x xs here rest zero zero d less within = absurd (omega (arith, less))
pairs-cons R x xs here rest zero (suc j) d less within = here j d (omega (arith, within))
pairs-cons R x xs here rest (suc i) zero d less within = absurd (omega (arith, less))
pairs-cons R x xs here rest (suc i) (suc j) d less within = rest i j d (omega (arith, less)) (omega (arith, within))

pub four-rising : {X : Type 0} (f : X → ℕ) (a b c d : X) → f a < f b → f b < f c → f c < f d → AllPairs (λ x y. f x < f y) (a ∷ b ∷ c ∷ d ∷ [])
four-rising f a b c d ab bc cd =
    pairs-cons (λ x y. f x < f y) a (b ∷ c ∷ d ∷ []) (All-from_recursion (λ y. f a < f y) (b ∷ c ∷ d ∷ []) (ab, (omega (arith, ab, bc), (omega (arith, ab, bc, cd), tt))))
    (pairs-cons (λ x y. f x < f y) b (c ∷ d ∷ []) (All-from_recursion (λ y. f b < f y) (c ∷ d ∷ []) (bc, (omega (arith, bc, cd), tt)))
    (pairs-cons (λ x y. f x < f y) c (d ∷ []) (All-from_recursion (λ y. f c < f y) (d ∷ []) (cd, tt))
    (pairs-cons (λ x y. f x < f y) d [] (All-from_recursion (λ y. f d < f y) [] tt) (pairs-nil (λ x y. f x < f y)))))

-- two lists whose keys rise, those of the second not below a bound of the first
pub rising-append : {X : Type 0} (f : X → ℕ) (xs ys : List X) (n : ℕ) → AllPairs (λ x y. f x < f y) xs → AllPairs (λ x y. f x < f y) ys → All (λ x. f x < n) xs → All (λ y. n ≤ f y) ys → AllPairs (λ x y. f x < f y) (xs ++ ys)
rising-append f [] ys n old new below above = new
rising-append f (x ∷ xs) ys n old new below above =
    pairs-cons (λ x y. f x < f y) x (xs ++ ys)
    (All-append (λ y. f x < f y) xs ys
    (λ k d within. old zero (suc k) d (omega arith) (omega (arith, within)))
    (All-weaker (λ y. n ≤ f y) (λ y. f x < f y) (λ y h. let first : f x < n = All-head (λ z. f z < n) x xs below in omega (arith, first, h)) ys above))
    (rising-append f xs ys n (pairs-tail (λ x y. f x < f y) x xs old) new (All-tail (λ z. f z < n) x xs below) above)

-- ---- back along a map

pub all-unmapped : {X Y : Type 0} (f : X → Y) (P : Y → Type 0) (xs : List X) → All P (map f xs) → All (λ x. P (f x)) xs
all-unmapped f P xs h k d within =
    subst P (get_or-map f xs k d (f d) within) (h k (f d) (omega (arith, within, length-map xs f)))

-- ---- membership

pub contains-cons : (x : ℕ) (xs : List ℕ) (v : ℕ) → Contains xs v → Contains (x ∷ xs) v
contains-cons x xs v (k, within, is) = (suc k, omega (arith, within), is)

pub contains-first : (x : ℕ) (xs : List ℕ) (v : ℕ) → x ≡ v → Contains (x ∷ xs) v
contains-first x xs v is = (zero, omega arith, is)

pub contains-or : (xs : List ℕ) (v : ℕ) → Contains xs v ⊎ (Contains xs v → ⊥)
contains-or [] v = inr (λ h. omega (arith, h.1))
contains-or (x ∷ xs) v = elim (cases_eq x v) [
  | inl same ↦ inl (contains-first x xs v same)
  | inr other ↦ further (contains-or xs v) other
]
  where
    no : (x ≡ v → ⊥) → (Contains xs v → ⊥) → Contains (x ∷ xs) v → ⊥
    no other none (zero, within, is) = other is
    no other none (suc k, within, is) = none (k, omega (arith, within), is)

    further : Contains xs v ⊎ (Contains xs v → ⊥) → (x ≡ v → ⊥) → Contains (x ∷ xs) v ⊎ (Contains (x ∷ xs) v → ⊥)
    further (inl h) other = inl (contains-cons x xs v h)
    further (inr none) other = inr (no other none)

-- ---- one element more

pub each-snoc : {A : Type 0} (P : A → Type 0) (xs new : List A) (x : A) → All P xs → P x → new ≡ xs ++ x ∷ [] → All P new
each-snoc P xs new x each is added = subst (All P) (sym added) (All-append P xs (x ∷ []) each (All-from_recursion P (x ∷ []) (is, tt)))
