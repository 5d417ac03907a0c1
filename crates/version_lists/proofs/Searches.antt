-- Where a number stands among numbers that rise.
use Rattle.std.proofs.Common.{Ordering, Result, Ok, Err, IfSome, IfNone, ◌≡◌, ◌≢◌, ◌∙◌, ℕ, ◌+◌, ◌-◌, ◌<◌, ◌≤◌, length, get_or, List, Some, None, sym, arith, inl, inr, All, ap, slice_get, slice_index_or}
use Rattle.std.proofs.lemmas.Bool.Decides.{nat_tests}
use Rattle.std.proofs.lemmas.Bool.{cases_lt}
use Rattle.std.proofs.lemmas.Option.{get_or_from_slice_get, none-some, slice_get_within, slice_get-get_or}
use Rattle.std.specs.Result.{result_ok}
use Rattle.std.specs.List.{HoldsAt}
use Rattle.std.specs.List.Sorted.{IsSearchInRange, IsBinarySearchResult, IsNonDecreasingBy}
use Rattle.std.specs.Ordering.{nat_cmp, ordering_index}
use Rattle.std.proofs.lemmas.Cmp.{ranked}
use Rattle.version_lists.specs.declared.slots.Numbered.{Numbered}
use Rattle.version_lists.specs.Numbers.{by_number, IsRising}
use Rattle.version_lists.proofs.ByNumber.{place_below, slot_absent, slot_found}

comparisons_rise : (kept : List Numbered) (q : ℕ) → IsRising kept → IsNonDecreasingBy (λ t. ordering_index (nat_cmp t.number q)) kept
comparisons_rise kept q rising i j d le within =
    let rise : (get_or kept i d).number ≤ (get_or kept j d).number =
    elim (cases_lt i j) [
      | inl less ↦ omega (arith, rising i j d less within)
      | inr ge ↦
          let same : i ≡ j = omega (arith, le, ge) in
          rw same (omega arith)
    ] in
    grind (arith, nat_tests)

-- a search by halves ends at the number, or where there is none
pub searched : (kept : List Numbered) (q : ℕ) (r : Result ℕ ℕ) → IsRising kept → IsSearchInRange r (length kept) → IsBinarySearchResult (λ t. nat_cmp t.number q) kept r
    → record { within : IfSome (result_ok r) (λ i. i < length kept); found : IfSome (result_ok r) (HoldsAt (λ t. t.number ≡ q) kept); absent : IfNone (result_ok r) (All (λ t. t.number ≢ q) kept) }
searched kept q (Ok i) rising within equal = record {
  within = within;
  found = λ d. ranked (get_or kept i d).number q Ordering.Equal (sym (equal d));
  absent = tt;
}
searched kept q (Err i) rising within parted = record {
  within = tt;
  found = tt;
  absent = λ k d inside same.
      elim (cases_lt k i) [
        | inl before ↦
            let less : (get_or kept k d).number < q = ranked (get_or kept k d).number q Ordering.Less (sym ((parted (comparisons_rise kept q rising)).0 k d (omega arith) before)) in
            omega (arith, less, same)
        | inr from ↦
            let more : q < (get_or kept k d).number = ranked (get_or kept k d).number q Ordering.Greater (sym ((parted (comparisons_rise kept q rising)).1 k d from inside)) in
            omega (arith, more, same)
      ];
}

-- all are below what is above the last one
pub above_last : (kept : List Numbered) (q : ℕ) (last : Numbered) → IsRising kept → slice_get kept (length kept - 1) ≡ Some last → last.number < q → (k : ℕ) (d : Numbered) → k < length kept → (get_or kept k d).number < q
above_last kept q last rising at less k d within =
    let is : get_or kept (length kept - 1) d ≡ last = get_or_from_slice_get kept (length kept - 1) last d at in
    let less_last : (get_or kept (length kept - 1) d).number < q = rw is less in
    elim (cases_lt k (length kept - 1)) [
      | inl before ↦ omega (arith, less_last, rising k (length kept - 1) d before (omega (arith, within)))
      | inr from ↦
          let same : k ≡ length kept - 1 = omega (arith, from, within) in
          rw same less_last
    ]

-- ---- one by one

-- the number is not among the first ones
abbrev pub IsLater : List Numbered → ℕ → ℕ → Type 0
IsLater kept n i = (k : ℕ) (d : Numbered) → k < i → (get_or kept k d).number < n

pub read_here : (kept : List Numbered) (i n : ℕ) (one : Numbered) → IsRising kept → slice_get kept i ≡ Some one → one.number ≡ n → one.slot ≡ slice_index_or (by_number kept) n 0
read_here kept i n one rising at is =
    let same : get_or kept i one ≡ one = get_or_from_slice_get kept i one one at in
    let number : (get_or kept i one).number ≡ n = rw same is in
    ap (λ (x : Numbered). x.slot) (sym same) ∙ slot_found kept i n one rising (slice_get_within kept i one at) number

pub read_past : (kept : List Numbered) (i n : ℕ) (one : Numbered) → IsRising kept → IsLater kept n i → slice_get kept i ≡ Some one → n < one.number → 0 ≡ slice_index_or (by_number kept) n 0
read_past kept i n one rising later at more =
    slot_absent kept n
    (λ k d inside same.
    let is : get_or kept i d ≡ one = get_or_from_slice_get kept i one d at in
    let above : n < (get_or kept i d).number = rw is more in
    elim (cases_lt k i) [
      | inl before ↦ omega (arith, later k d before, same)
      | inr from ↦
          elim (cases_lt i k) [
            | inl less ↦ omega (arith, rising i k d less inside, above, same)
            | inr ge ↦
                let here : k ≡ i = omega (arith, from, ge) in
                let number : (get_or kept i d).number ≡ n = rw here at same in
                omega (arith, number, above)
          ]
    ])

pub read_none : (kept : List Numbered) (i n : ℕ) → IsLater kept n i → slice_get kept i ≡ None → 0 ≡ slice_index_or (by_number kept) n 0
read_none kept i n later none =
    slot_absent kept n
    (λ k d inside same.
    elim (cases_lt k i) [
      | inl before ↦ omega (arith, later k d before, same)
      | inr from ↦
          let within : i < length kept = omega (arith, from, inside) in
          absurd (none-some (get_or kept i d) (sym none ∙ slice_get-get_or kept i d within))
    ])

pub later_more : (kept : List Numbered) (i n : ℕ) (one : Numbered) → IsLater kept n i → slice_get kept i ≡ Some one → one.number < n → IsLater kept n (i + 1)
later_more kept i n one later at less k d below =
    elim (cases_lt k i) [
      | inl before ↦ later k d before
      | inr from ↦
          let here : k ≡ i = omega (arith, from, below) in
          let is : get_or kept i d ≡ one = get_or_from_slice_get kept i one d at in
          let there : (get_or kept i d).number < n = rw is less in
          rw here there
    ]

-- the place of a lower number is lower
pub before_number : (kept : List Numbered) (i n : ℕ) (one : Numbered) → IsRising kept → slice_get kept i ≡ Some one → one.number < n → i + 1 ≤ n
before_number kept i n one rising at less =
    let is : get_or kept i one ≡ one = get_or_from_slice_get kept i one one at in
    let low : i ≤ (get_or kept i one).number = place_below kept i one rising (slice_get_within kept i one at) in
    let low_one : i ≤ one.number = rw is at low in
    omega (arith, low_one, less)

-- neither the number nor above it
pub lower : (a b : ℕ) → a ≢ b → b ≤ a → b < a
lower a b ne le =
    elim (cases_lt b a) [
      | inl less ↦ less
      | inr ge ↦ absurd (ne (omega (arith, le, ge)))
    ]
