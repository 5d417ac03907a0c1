-- The place of a row among rows whose numbers rise.
use Rattle.std.proofs.Common.{Ordering, Result, Ok, Err, IfSome, IfNone, ◌≡◌, ◌≢◌, ℕ, ◌<◌, ◌≤◌, length, get_or, List, sym, arith, inl, inr, All, AllPairs}
use Rattle.std.proofs.lemmas.Bool.Decides.{nat_tests}
use Rattle.std.proofs.lemmas.Bool.{cases_lt}
use Rattle.std.proofs.lemmas.Cmp.{ranked}
use Rattle.std.specs.Result.{result_ok}
use Rattle.std.specs.List.{HoldsAt}
use Rattle.std.specs.List.Sorted.{IsSearchInRange, IsBinarySearchResult, IsNonDecreasingBy}
use Rattle.std.specs.Ordering.{nat_cmp, ordering_index}
use Rattle.problem_core.specs.Layout.{Row}

comparisons-rise : (rows : List Row) (n : ℕ) → AllPairs (λ r s. r.id < s.id) rows → IsNonDecreasingBy (λ r. ordering_index (nat_cmp r.id n)) rows
comparisons-rise rows n rising i j d le within =
    let rise : (get_or rows i d).id ≤ (get_or rows j d).id =
    elim (cases_lt i j) [
      | inl less ↦ omega (arith, rising i j d less within)
      | inr ge ↦
          let same : i ≡ j = omega (arith, le, ge) in
          rw same (omega arith)
    ] in
    grind (arith, nat_tests)

-- a binary search by number ends at the row, or where none has it
pub searched : (rows : List Row) (n : ℕ) (r : Result ℕ ℕ) → AllPairs (λ r s. r.id < s.id) rows → IsSearchInRange r (length rows) → IsBinarySearchResult (λ r. nat_cmp r.id n) rows r
    → record { within : IfSome (result_ok r) (λ i. i < length rows); found : IfSome (result_ok r) (HoldsAt (λ r. r.id ≡ n) rows); absent : IfNone (result_ok r) (All (λ r. r.id ≢ n) rows) }
searched rows n (Ok i) rising within equal = record {
  within = within;
  found = λ d. ranked (get_or rows i d).id n Ordering.Equal (sym (equal d));
  absent = tt;
}
searched rows n (Err i) rising within parted = record {
  within = tt;
  found = tt;
  absent = λ k d inside same.
      elim (cases_lt k i) [
        | inl before ↦
            let less : (get_or rows k d).id < n = ranked (get_or rows k d).id n Ordering.Less (sym ((parted (comparisons-rise rows n rising)).0 k d (omega arith) before)) in
            omega (arith, less, same)
        | inr from ↦
            let more : n < (get_or rows k d).id = ranked (get_or rows k d).id n Ordering.Greater (sym ((parted (comparisons-rise rows n rising)).1 k d from inside)) in
            omega (arith, more, same)
      ];
}
