-- Different numbers, in order: they rise.
use Rattle.std.proofs.Common.{◌≡◌, ◌≢◌, ◌∙◌, ℕ, zero, suc, ◌<◌, ◌≤◌, Bool, cond, nat_eq, List, [], ◌∷◌, length, get_or, inl, inr, refl, sym, ap, arith, AllPairs, IsPermutation, IsSorted, sum_by, eq-eqb, ne_eqb}
use Rattle.std.specs.Ordering.{nat_cmp}
use Rattle.std.proofs.lemmas.Bool.{cases_eq}
use Rattle.std.proofs.lemmas.List.Sorted.{IsNonDecreasingBy-from_sort, sum_by-IsPermutation}
use Rattle.std.proofs.lemmas.List.Sums.{get_or-le-sum_by, sum_by-cons}
use Rattle.frac_core.proofs.Lists.{pairs-rest}

-- how often a number is there
abbrev once : ℕ → ℕ → ℕ
once n m = cond (nat_eq m n) 1 0

abbrev times : ℕ → List ℕ → ℕ
times n xs = sum_by (once n) xs

once-same : (n m : ℕ) → m ≡ n → once n m ≡ 1
once-same n m e = ap (λ (b : Bool). cond b 1 0) (eq-eqb m n e)

once-other : (n m : ℕ) → m ≢ n → once n m ≡ 0
once-other n m e = ap (λ (b : Bool). cond b 1 0) (ne_eqb m n e)

-- a number that isn't there
never : (n : ℕ) (xs : List ℕ) → ((k d : ℕ) → k < length xs → get_or xs k d ≢ n) → times n xs ≡ 0
never n [] h = refl
never n (x ∷ xs) h =
    let head = once-other n x (h 0 0 (omega arith)) in
    let tail = never n xs (λ k d within. h (suc k) d (omega (arith, within))) in
    let all = sum_by-cons (once n) x xs in omega (arith, head, tail, all)

-- of different numbers each is there once at most
at-most-once : (n : ℕ) (xs : List ℕ) → AllPairs (λ a b. a ≢ b) xs → times n xs ≤ 1
at-most-once n [] h = omega arith
at-most-once n (x ∷ xs) h = let all = sum_by-cons (once n) x xs in elim (cases_eq x n) [
  | inl same ↦
      let none = never n xs (λ k d within e. h 0 (suc k) d (omega arith) (omega (arith, within)) (same ∙ sym e)) in
      let one = once-same n x same in omega (arith, none, one, all)
  | inr other ↦
      let rest = at-most-once n xs (pairs-rest (λ (a b : ℕ). a ≢ b) x xs h) in
      let none = once-other n x other in omega (arith, rest, none, all)
]

-- what stands at two places is there twice
twice : (n : ℕ) (xs : List ℕ) (i j d : ℕ) → i < j → j < length xs → get_or xs i d ≡ n → get_or xs j d ≡ n → 2 ≤ times n xs
twice n [] i j d less within e f = absurd (omega (arith, within))
twice n (x ∷ xs) zero zero d less within e f = absurd (omega (arith, less))
twice n (x ∷ xs) zero (suc j) d less within e f =
    let here = once-same n x e in
    let later = get_or-le-sum_by (once n) xs j d (omega (arith, within)) in
    let there = once-same n (get_or xs j d) f in
    let all = sum_by-cons (once n) x xs in omega (arith, here, later, there, all)
twice n (x ∷ xs) (suc i) zero d less within e f = absurd (omega (arith, less))
twice n (x ∷ xs) (suc i) (suc j) d less within e f =
    let rest = twice n xs i j d (omega (arith, less)) (omega (arith, within)) e f in
    let all = sum_by-cons (once n) x xs in omega (arith, rest, all)

-- different numbers in another order are different
pub numbers_apart : (xs ys : List ℕ) → AllPairs (λ a b. a ≢ b) xs → IsPermutation xs ys → AllPairs (λ a b. a ≢ b) ys
numbers_apart xs ys apart same i j d less within e =
    let n : ℕ = get_or ys j d in
    let two = twice n ys i j d less within e refl in
    let one = at-most-once n xs apart in
    let equal = sum_by-IsPermutation (once n) xs ys same in
    absurd (omega (arith, two, one, equal))

-- different numbers rise once they are sorted
pub sorted_rise : (xs ys : List ℕ) → AllPairs (λ a b. a ≢ b) xs → IsPermutation xs ys → IsSorted nat_cmp ys → AllPairs (λ a b. a < b) ys
sorted_rise xs ys apart same sorted i j d less within =
    let other : get_or ys i d ≢ get_or ys j d = numbers_apart xs ys apart same i j d less within in
    let most : get_or ys i d ≤ get_or ys j d = IsNonDecreasingBy-from_sort (λ (n : ℕ). n) ys sorted i j d (omega (arith, less)) within in
    elim (cases_eq (get_or ys i d) (get_or ys j d)) [
      | inl e ↦ absurd (other e)
      | inr n ↦ omega (arith, most, n)
    ]
