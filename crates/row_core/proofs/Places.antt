-- The coefficients of a row whose columns rise.
use Rattle.std.proofs.Common.{Ordering, Result, Ok, Err, IfSome, IfNone, ◌≡◌, ◌≢◌, ℕ, zero, suc, ◌-◌, ◌<◌, ◌≤◌, length, get_or, true, false, cond, nat_eq, List, [], ◌∷◌, ℤ, pos, sym, refl, subst, arith, ◌⊎◌, inl, inr, All}
use Rattle.std.proofs.lemmas.Bool.Decides.{nat_tests}
use Rattle.std.proofs.lemmas.Bool.{cases_order, cases_lt}
use borrow.Author.Differences.{ints}
use Rattle.std.specs.Result.{result_ok}
use Rattle.std.specs.List.{HoldsAt}
use Rattle.std.specs.List.Sorted.{IsSearchInRange, IsBinarySearchResult, IsNonDecreasingBy}
use Rattle.std.specs.Ordering.{nat_cmp, ordering_index}
use Rattle.std.proofs.lemmas.Cmp.{ranked}
use Rattle.row_core.specs.Rows.{Term, coefficient, IsRising}

pub rising_tail : (x : Term) (row : List Term) → IsRising (x ∷ row) → IsRising row
rising_tail x row rising = λ i j d less within. rising (suc i) (suc j) d (omega arith) (omega arith)

pub rising_head : (x : Term) (row : List Term) → IsRising (x ∷ row) → All (λ t. x.col < t.col) row
rising_head x row rising = λ k d within. rising zero (suc k) d (omega arith) (omega arith)

pub all_tail : (P : Term → Type 0) (x : Term) (row : List Term) → All P (x ∷ row) → All P row
all_tail P x row all = λ k d within. all (suc k) d (omega arith)

-- the part of a term in the coefficient of the column c
abbrev pub number_of : ℕ → Term → ℤ
number_of c t = cond (nat_eq t.col c) t.by (pos 0)

pub at-here : (c : ℕ) (t : Term) → t.col ≡ c → number_of c t ≡ t.by
at-here c t e =
    let test : nat_eq t.col c ≡ true = grind (arith, nat_tests) in
    rw test refl

pub at-elsewhere : (c : ℕ) (t : Term) → t.col ≢ c → number_of c t ≡ pos 0
at-elsewhere c t e =
    let test : nat_eq t.col c ≡ false = grind (arith, nat_tests) in
    rw test refl

-- a column that no term has
pub absent : (c : ℕ) (row : List Term) → All (λ t. t.col ≢ c) row → coefficient c row ≡ pos 0
absent c [] all = refl
absent c (x ∷ row) all =
    let first : number_of c x ≡ pos 0 = at-elsewhere c x (all zero x (omega arith)) in
    let rest : coefficient c row ≡ pos 0 = absent c row (all_tail (λ t. t.col ≢ c) x row all) in
    omega (arith, ints, first, rest)

above_absent : (c : ℕ) (row : List Term) → All (λ t. c < t.col) row → coefficient c row ≡ pos 0
above_absent c row all = absent c row (λ k d within. let less : c < (get_or row k d).col = all k d within in omega (arith, less))

-- the coefficient at the column of a term
pub coefficient_at : (row : List Term) (k : ℕ) (d : Term) → IsRising row → k < length row → coefficient (get_or row k d).col row ≡ (get_or row k d).by
coefficient_at [] k d rising within = absurd (omega arith)
coefficient_at (x ∷ row) zero d rising within =
    let rest : coefficient x.col row ≡ pos 0 = above_absent x.col row (rising_head x row rising) in
    omega (arith, ints, at-here x.col x refl, rest)
coefficient_at (x ∷ row) (suc k) d rising within =
    let inside : k < length row = omega arith in
    let less : x.col < (get_or row k d).col = rising_head x row rising k d inside in
    let first : number_of (get_or row k d).col x ≡ pos 0 = at-elsewhere (get_or row k d).col x (omega (arith, less)) in
    let rest : coefficient (get_or row k d).col row ≡ (get_or row k d).by = coefficient_at row k d (rising_tail x row rising) inside in
    omega (arith, ints, first, rest)

cases_equal : (a b : ℕ) → (a ≡ b) ⊎ (a ≢ b)
cases_equal a b =
    elim (cases_order a b) [
      | inl same ↦ inl same
      | inr (inl less) ↦ inr (omega (arith, less))
      | inr (inr more) ↦ inr (omega (arith, more))
    ]

-- what holds of 0 and of each number of a row holds of each coefficient
pub of_coefficients : (P : ℤ → Type 0) → P (pos 0) → (row : List Term) → IsRising row → All (λ t. P t.by) row → (c : ℕ) → P (coefficient c row)
of_coefficients P none [] rising all c = none
of_coefficients P none (x ∷ row) rising all c =
    elim (cases_equal x.col c) [
      | inl here ↦
          let rest : coefficient c row ≡ pos 0 = above_absent c row (subst (λ (v : ℕ). All (λ t. v < t.col) row) here (rising_head x row rising)) in
          let whole : x.by ≡ coefficient c (x ∷ row) = omega (arith, ints, at-here c x here, rest) in
          subst P whole (all zero x (omega arith))
      | inr elsewhere ↦
          let whole : coefficient c row ≡ coefficient c (x ∷ row) = omega (arith, ints, at-elsewhere c x elsewhere) in
          subst P whole (of_coefficients P none row (rising_tail x row rising) (all_tail (λ t. P t.by) x row all) c)
    ]

comparisons_rise : (row : List Term) (q : ℕ) → IsRising row → IsNonDecreasingBy (λ t. ordering_index (nat_cmp t.col q)) row
comparisons_rise row q rising i j d le within =
    let rise : (get_or row i d).col ≤ (get_or row j d).col =
    elim (cases_lt i j) [
      | inl less ↦ omega (arith, rising i j d less within)
      | inr ge ↦
          let same : i ≡ j = omega (arith, le, ge) in
          rw same (omega arith)
    ] in
    grind (arith, nat_tests)

-- a binary search by column ends at the column, or where the row has none
pub searched : (row : List Term) (q : ℕ) (r : Result ℕ ℕ) → IsRising row → IsSearchInRange r (length row) → IsBinarySearchResult (λ t. nat_cmp t.col q) row r
    → record { within : IfSome (result_ok r) (λ i. i < length row); found : IfSome (result_ok r) (HoldsAt (λ t. t.col ≡ q) row); absent : IfNone (result_ok r) (All (λ t. t.col ≢ q) row) }
searched row q (Ok i) rising within equal = record {
  within = within;
  found = λ d. ranked (get_or row i d).col q Ordering.Equal (sym (equal d));
  absent = tt;
}
searched row q (Err i) rising within parted = record {
  within = tt;
  found = tt;
  absent = λ k d inside same.
      elim (cases_lt k i) [
        | inl before ↦
            let less : (get_or row k d).col < q = ranked (get_or row k d).col q Ordering.Less (sym ((parted (comparisons_rise row q rising)).0 k d (omega arith) before)) in
            omega (arith, less, same)
        | inr from ↦
            let more : q < (get_or row k d).col = ranked (get_or row k d).col q Ordering.Greater (sym ((parted (comparisons_rise row q rising)).1 k d from inside)) in
            omega (arith, more, same)
      ];
}
