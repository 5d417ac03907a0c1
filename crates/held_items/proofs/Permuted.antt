-- A part of a list, and that part of the list in another order.
use Rattle.std.proofs.Common.{ℕ, zero, suc, ◌<◌, Bool, true, false, cond, List, [], ◌∷◌, filter, length, get_or, set, swap, arith, IsPermutation}
use Rattle.std.proofs.lemmas.List.Sorted.{IsPermutation-cons, IsPermutation-keeps, IsPermutation-middle, IsPermutation-refl, IsPermutation-trans}

module _ {X : Type 0} (p : X → Bool) where
  abbrev Alike : List X → List X → Type 0
  Alike xs ys = IsPermutation (filter p xs) (filter p ys)

  chain : (xs ys zs : List X) → Alike xs ys → Alike ys zs → Alike xs zs
  chain xs ys zs = IsPermutation-trans (filter p xs) (filter p ys) (filter p zs)

  skip-by : (b : Bool) (x : X) (us vs : List X) → IsPermutation us vs → IsPermutation (cond b (x ∷ us) us) (cond b (x ∷ vs) vs)
  skip-by true x us vs h = IsPermutation-cons x us vs h
  skip-by false x us vs h = h

  skip : (x : X) (xs ys : List X) → Alike xs ys → Alike (x ∷ xs) (x ∷ ys)
  skip x xs ys h = skip-by (p x) x (filter p xs) (filter p ys) h

  turn-by : (b c : Bool) (x y : X) (us : List X) → IsPermutation (cond b (x ∷ cond c (y ∷ us) us) (cond c (y ∷ us) us)) (cond c (y ∷ cond b (x ∷ us) us) (cond b (x ∷ us) us))
  turn-by true true x y us = IsPermutation-middle (x ∷ []) y us
  turn-by true false x y us = IsPermutation-refl (x ∷ us)
  turn-by false true x y us = IsPermutation-refl (y ∷ us)
  turn-by false false x y us = IsPermutation-refl us

  turn : (x y : X) (xs : List X) → Alike (x ∷ y ∷ xs) (y ∷ x ∷ xs)
  turn x y xs = turn-by (p x) (p y) x y (filter p xs)

  to-head : (l : List X) (j : ℕ) (x d : X) → j < length l → Alike (x ∷ l) (get_or l j d ∷ set l j x)
  to-head [] j x d h = absurd (omega (arith, h))
  to-head (y ∷ l) zero x d h = turn x y l
  to-head (y ∷ l) (suc j) x d h =
      chain (x ∷ y ∷ l) (y ∷ x ∷ l) (get_or l j d ∷ y ∷ set l j x) (turn x y l)
      (chain (y ∷ x ∷ l) (y ∷ get_or l j d ∷ set l j x) (get_or l j d ∷ y ∷ set l j x)
      (skip y (x ∷ l) (get_or l j d ∷ set l j x) (to-head l j x d (omega (arith, h)))) (turn y (get_or l j d) (set l j x)))

  exchanged : (l : List X) (i j : ℕ) (d : X) → i < length l → j < length l → Alike l (set (set l i (get_or l j d)) j (get_or l i d))
  exchanged [] i j d a b = absurd (omega (arith, a))
  exchanged (x ∷ l) zero zero d a b = IsPermutation-refl (filter p (x ∷ l))
  exchanged (x ∷ l) zero (suc j) d a b = to-head l j x d (omega (arith, b))
  exchanged (x ∷ l) (suc i) zero d a b = to-head l i x d (omega (arith, a))
  exchanged (x ∷ l) (suc i) (suc j) d a b = skip x l (set (set l i (get_or l j d)) j (get_or l i d)) (exchanged l i j d (omega (arith, a)) (omega (arith, b)))

  swapped : (l : List X) (i j : ℕ) → i < length l → j < length l → Alike l (swap l i j)
  swapped [] i j a b = absurd (omega (arith, a))
  swapped (x ∷ l) i j a b = exchanged (x ∷ l) i j x a b

  pub permuted_part : (xs ys : List X) → IsPermutation xs ys → IsPermutation (filter p xs) (filter p ys)
  permuted_part xs = IsPermutation-keeps xs (Alike xs) (IsPermutation-refl (filter p xs)) (λ l i j a b h. chain xs l (swap l i j) h (swapped l i j a b))
