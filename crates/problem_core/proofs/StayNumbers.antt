-- The numbers of the stays' attributes, in another order, and in the order that rises.
use Rattle.std.proofs.Common.{◌≡◌, ◌≢◌, ◌∙◌, inl, inr, ℕ, zero, suc, ◌<◌, ◌≤◌, List, [], ◌∷◌, map, length, take, get_or, refl, sym, ap, subst, arith, All, AllPairs, Contains, IsPermutation, IsSorted}
use Rattle.std.specs.Ordering.{nat_cmp}
use Rattle.std.proofs.lemmas.Bool.{cases_eq}
use Rattle.std.proofs.lemmas.List.{get_or_default, take_all}
use Rattle.std.proofs.lemmas.List.Elements.{All-contains, All-contains_itself, All-from_recursion, All-map, recursion_from_All}
use Rattle.std.proofs.lemmas.List.Sorted.{All-permutation, IsPermutation-refl, IsPermutation-sym}
use Rattle.frac_core.proofs.Lists.{each-from_map, pairs-map, pairs-rest}
use Rattle.problem_core.specs.declared.parts.Stay.{Stay}
use Rattle.problem_core.specs.Layout.{HasStay}
use Rattle.problem_core.specs.Numbers.{AreNumbersOf}
use Rattle.problem_core.proofs.SortedNumbers.{sorted_rise}

abbrev attr_of : Stay → ℕ
attr_of s = s.attr

module _ (stays : List Stay) (numbers : List ℕ) (same : IsPermutation (map attr_of stays) numbers) where
  own : All (λ s. HasStay stays s.attr) stays
  own k d within = (k, get_or stays k d, within, get_or_default stays k (get_or stays k d) d within, refl)

  -- each number is an attribute's
  pub numbers_held : All (HasStay stays) numbers
  numbers_held = All-permutation (HasStay stays) (map attr_of stays) numbers same (All-map (HasStay stays) attr_of stays own)

  -- each attribute's number is there
  pub stays_there : All (λ s. Contains numbers s.attr) stays
  stays_there =
      All-from_recursion (λ (s : Stay). Contains numbers s.attr) stays
      (each-from_map (Contains numbers) attr_of stays
      (recursion_from_All (Contains numbers) (map attr_of stays)
      (All-permutation (Contains numbers) numbers (map attr_of stays) (IsPermutation-sym (map attr_of stays) numbers same) (All-contains_itself numbers))))

  pub held_there : (a : ℕ) → HasStay stays a → Contains numbers a
  held_there a (k, s, within, is, e) = subst (Contains numbers) (ap attr_of is ∙ e) (stays_there k s within)

  -- sorted, they rise
  pub numbers_rise : AllPairs (λ s t. s.attr ≢ t.attr) stays → IsSorted nat_cmp numbers → AllPairs (λ a b. a < b) numbers
  numbers_rise apart sorted = sorted_rise (map attr_of stays) numbers (pairs-map attr_of (λ (a b : ℕ). a ≢ b) stays apart) same sorted

-- ---- by number

-- all have been read
pub all_read : (stays : List Stay) (attrs : List ℕ) (i : ℕ) → length stays ≤ i → attrs ≡ map (λ s. s.attr) (take i stays) → attrs ≡ map (λ s. s.attr) stays
all_read stays attrs i past are = are ∙ ap (λ (ss : List Stay). map (λ s. s.attr) ss) (take_all i stays past)

-- the stays' attributes, sorted, are their numbers
pub sorted_numbers : (stays : List Stay) (attrs numbers : List ℕ) → AllPairs (λ s t. s.attr ≢ t.attr) stays → attrs ≡ map (λ s. s.attr) stays → IsPermutation attrs numbers → IsSorted nat_cmp numbers → AreNumbersOf stays numbers
sorted_numbers stays attrs numbers apart are permuted sorted =
    let same : IsPermutation (map attr_of stays) numbers = subst (λ (ns : List ℕ). IsPermutation ns numbers) are permuted in
    record { same = same; rising = numbers_rise stays numbers same apart sorted }

-- what holds of each stay's attribute holds of each number
pub of_each : (stays : List Stay) (P : ℕ → Type 0) (xs : List ℕ) → AreNumbersOf stays xs → All (λ s. P s.attr) stays → All P xs
of_each stays P xs are all = All-permutation P (map attr_of stays) xs are.same (All-map P attr_of stays all)

-- each number has a stay, and each stay's number is there
pub all_held : (stays : List Stay) (xs : List ℕ) → AreNumbersOf stays xs → All (HasStay stays) xs
all_held stays xs are = numbers_held stays xs are.same

pub is_there : (stays : List Stay) (xs : List ℕ) → AreNumbersOf stays xs → (a : ℕ) → HasStay stays a → Contains xs a
is_there stays xs are = held_there stays xs are.same

pub is_held : (stays : List Stay) (xs : List ℕ) → AreNumbersOf stays xs → (a : ℕ) → Contains xs a → HasStay stays a
is_held stays xs are a there = All-contains (HasStay stays) xs a (all_held stays xs are) there

-- ---- they are one list

further : (x : ℕ) (xs : List ℕ) (y : ℕ) → Contains xs y → Contains (x ∷ xs) y
further x xs y (k, within, is) = (suc k, omega (arith, within), is)

behind : (x y : ℕ) (xs : List ℕ) → Contains (x ∷ xs) y → x ≢ y → Contains xs y
behind x y xs (zero, within, is) apart = absurd (apart is)
behind x y xs (suc k, within, is) apart = (k, omega (arith, within), is)

-- the first is less than all behind it
first-less : (x y : ℕ) (xs : List ℕ) → AllPairs (λ a b. a < b) (x ∷ xs) → Contains xs y → x < y
first-less x y xs rising (k, within, is) =
    let low : x < get_or xs k y = rising 0 (suc k) y (omega arith) (omega (arith, within)) in omega (arith, low, is)

least : (x y : ℕ) (xs : List ℕ) → AllPairs (λ a b. a < b) (x ∷ xs) → Contains (x ∷ xs) y → x ≤ y
least x y xs rising c = elim (cases_eq x y) [
  | inl e ↦ omega (arith, e)
  | inr ne ↦ (let less = first-less x y xs rising (behind x y xs c ne) in omega (arith, less))
]

rest-has : (x : ℕ) (xs ys : List ℕ) → AllPairs (λ a b. a < b) (x ∷ xs) → ((u : ℕ) → Contains (x ∷ xs) u → Contains (x ∷ ys) u) → (u : ℕ) → Contains xs u → Contains ys u
rest-has x xs ys rising has u c =
    behind x u ys (has u (further x xs u c)) (λ e. let less = first-less x u xs rising c in absurd (omega (arith, less, e)))

-- two rising lists of the same numbers are one
one_rising : (xs ys : List ℕ) → AllPairs (λ a b. a < b) xs → AllPairs (λ a b. a < b) ys → ((u : ℕ) → Contains xs u → Contains ys u) → ((u : ℕ) → Contains ys u → Contains xs u) → xs ≡ ys
one_rising [] [] up down to from = refl
one_rising [] (y ∷ ys) up down to from = let c = from y (0, omega arith, refl) in absurd (omega (arith, c.1))
one_rising (x ∷ xs) [] up down to from = let c = to x (0, omega arith, refl) in absurd (omega (arith, c.1))
one_rising (x ∷ xs) (y ∷ ys) up down to from =
    let le : x ≤ y = least x y xs up (from y (0, omega arith, refl)) in
    let ge : y ≤ x = least y x ys down (to x (0, omega arith, refl)) in
    let same : y ≡ x = omega (arith, le, ge) in
    let rising : AllPairs (λ a b. a < b) (x ∷ ys) = subst (λ (u : ℕ). AllPairs (λ a b. a < b) (u ∷ ys)) same down in
    ap (λ us. x ∷ us)
    (one_rising xs ys (pairs-rest (λ a b. a < b) x xs up) (pairs-rest (λ a b. a < b) y ys down)
    (rest-has x xs ys up (λ u c. subst (λ (z : ℕ). Contains (z ∷ ys) u) same (to u c)))
    (rest-has x ys xs rising (λ u c. from u (subst (λ (z : ℕ). Contains (z ∷ ys) u) (sym same) c))))
    ∙ ap (λ u. u ∷ ys) (sym same)

pub same_numbers : (stays : List Stay) (xs ys : List ℕ) → AreNumbersOf stays xs → AreNumbersOf stays ys → xs ≡ ys
same_numbers stays xs ys a b = one_rising xs ys a.rising b.rising (λ u c. is_there stays ys b u (is_held stays xs a u c)) (λ u c. is_there stays xs a u (is_held stays ys b u c))

-- two stays whose attributes rise
pub two_numbers : (s t : Stay) → s.attr < t.attr → AreNumbersOf (s ∷ t ∷ []) (s.attr ∷ t.attr ∷ [])
two_numbers s t less = record { same = IsPermutation-refl (s.attr ∷ t.attr ∷ []); rising = rises }
  where
    rises : AllPairs (λ a b. a < b) (s.attr ∷ t.attr ∷ [])
    rises zero zero d lt within = absurd (omega (arith, lt))
    rises zero (suc zero) d lt within = less
    rises zero (suc (suc j)) d lt within = absurd (omega (arith, within))
    rises (suc i) zero d lt within = absurd (omega (arith, lt))
    rises (suc i) (suc zero) d lt within = absurd (omega (arith, lt))
    rises (suc i) (suc (suc j)) d lt within = absurd (omega (arith, within))
