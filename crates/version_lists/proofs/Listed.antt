-- One list of slots that rises.
use Rattle.std.proofs.Common.{◌≡◌, ◌≢◌, ◌↔◌, ◌∙◌, inl, inr, ℕ, zero, suc, ◌+◌, ◌-◌, ◌<◌, ◌≤◌, List, [], ◌∷◌, ◌++◌, length, take, drop, get_or, Some, sym, subst, ap, arith, Err, All}
use Rattle.std.specs.List.{Contains, insert, remove}
use Rattle.std.specs.Prelude.{slice_get}
use Rattle.std.specs.List.Sorted.{IsBinarySearchResult}
use Rattle.std.specs.Ordering.{nat_cmp}
use Rattle.std.proofs.lemmas.Bool.{cases_eq, cases_lt, cases_order}
use Rattle.std.proofs.lemmas.List.{append-nil, get_or_default, take-append-drop}
use Rattle.std.proofs.lemmas.List.Edits.{length-insert, get_or-insert_below, get_or-insert_at, get_or-insert_above, get_or-remove_below, get_or-remove_above, insert_end, length-remove}
use Rattle.std.proofs.lemmas.List.Elements.{Contains-append_left, Contains-append_right, Contains-append_cases}
use Rattle.std.proofs.lemmas.Option.{get_or_from_slice_get}
use Rattle.std.proofs.lemmas.List.Quantifiers.{all_pairs_remove}
use Rattle.std.proofs.lemmas.List.Sorted.{searched}
use Rattle.std.proofs.Math.Seq.{drop-cons, drop-length}
use Rattle.version_lists.specs.Indexes.{IsRisingList}
use Rattle.version_lists.specs.Lists.{IsWith, IsWithout}

-- a list that rises doesn't fall
rises_to : (xs : List ℕ) → IsRisingList xs → (i j : ℕ) → i ≤ j → j < length xs → get_or xs i 0 ≤ get_or xs j 0
rises_to xs rising i j le within =
    elim (cases_lt i j) [
      | inl less ↦ omega (arith, rising i j 0 less within)
      | inr ge ↦
          let same : i ≡ j = omega (arith, le, ge) in
          rw same (omega arith)
    ]

-- where a value would go: all before it are less, and all from there on are more
pub record IsPlaceFor (w : ℕ) (xs : List ℕ) (at : ℕ) : Type 0 where
  pub within : at ≤ length xs
  pub below : (k d : ℕ) → k < at → get_or xs k d < w
  pub above : (k d : ℕ) → at ≤ k → k < length xs → w < get_or xs k d

pub place_found : (xs : List ℕ) (w at : ℕ) → IsRisingList xs → IsBinarySearchResult (λ y. nat_cmp y w) xs (Err at) → IsPlaceFor w xs at
place_found xs w at rising found =
    let is : (at ≤ length xs) × ((k : ℕ) → k < at → get_or xs k 0 < w) × ((k : ℕ) → at ≤ k → k < length xs → w < get_or xs k 0) =
    searched xs w (Err at) found (rises_to xs rising) in
    record {
      within = is.0;
      below = λ k d less. omega (arith, is.0, is.1 k less, get_or_default xs k d 0 (omega (arith, is.0, less)));
      above = λ k d le within. omega (arith, is.2 k le within, get_or_default xs k d 0 within);
    }

inserted_above : (xs : List ℕ) (at w j d : ℕ) → at ≤ length xs → at < j → get_or (insert xs at w) j d ≡ get_or xs (j - 1) d
inserted_above xs at w j d within less =
    let back : j - 1 + 1 ≡ j = omega (arith, less) in
    subst (λ (n : ℕ). get_or (insert xs at w) n d ≡ get_or xs (j - 1) d) back (get_or-insert_above xs at w d (j - 1) (omega (arith, less)) within)

inserted_at : (xs : List ℕ) (at w j d : ℕ) → at ≤ length xs → j ≡ at → get_or (insert xs at w) j d ≡ w
inserted_at xs at w j d within same = rw same (get_or-insert_at xs at w d within)

rising_before : (xs : List ℕ) (w at : ℕ) → IsRisingList xs → IsPlaceFor w xs at → (i j d : ℕ) → i < at → i < j → j < length xs + 1 → get_or xs i d < get_or (insert xs at w) j d
rising_before xs w at rising place i j d before less within =
    elim (cases_order j at) [
      | inl same ↦ omega (arith, inserted_at xs at w j d place.within same, place.below i d before)
      | inr (inl lower) ↦
          omega (arith, get_or-insert_below xs at w d j lower place.within, rising i j d less (omega (arith, lower, place.within)))
      | inr (inr higher) ↦
          omega (
            arith,
            inserted_above xs at w j d place.within higher,
            place.below i d before,
            place.above (j - 1) d (omega (arith, higher)) (omega (arith, higher, within)),
          )
    ]

rising_from : (xs : List ℕ) (w at : ℕ) → IsRisingList xs → IsPlaceFor w xs at → (i j d : ℕ) → at ≤ i → i < j → j < length xs + 1 → get_or (insert xs at w) i d < get_or xs (j - 1) d
rising_from xs w at rising place i j d from less within =
    elim (cases_eq i at) [
      | inl same ↦
          omega (
            arith,
            inserted_at xs at w i d place.within same,
            place.above (j - 1) d (omega (arith, from, less)) (omega (arith, less, within)),
          )
      | inr other ↦
          omega (
            arith,
            inserted_above xs at w i d place.within (omega (arith, from, other)),
            rising (i - 1) (j - 1) d (omega (arith, from, other, less)) (omega (arith, less, within)),
          )
    ]

rising_inserted : (xs : List ℕ) (w at : ℕ) → IsRisingList xs → IsPlaceFor w xs at → IsRisingList (insert xs at w)
rising_inserted xs w at rising place i j d less inside =
    let within : j < length xs + 1 = omega (arith, inside, length-insert xs at w place.within) in
    elim (cases_lt i at) [
      | inl before ↦
          omega (arith, get_or-insert_below xs at w d i before place.within, rising_before xs w at rising place i j d before less within)
      | inr from ↦
          omega (
            arith,
            inserted_above xs at w j d place.within (omega (arith, from, less)),
            rising_from xs w at rising place i j d from less within,
          )
    ]

-- ---- what a list has

contains_tail : (w v : ℕ) (ys : List ℕ) → v ≢ w → Contains (w ∷ ys) v → Contains ys v
contains_tail w v ys other (zero, within, is) = absurd (other (sym is))
contains_tail w v ys other (suc k, within, is) = (k, omega (arith, within), is)

contains_cons : (w v : ℕ) (ys : List ℕ) → Contains ys v → Contains (w ∷ ys) v
contains_cons w v ys (k, within, is) = (suc k, omega (arith, within), is)

pub contains_between : (w v : ℕ) (xs ys : List ℕ) → v ≢ w → Contains (xs ++ w ∷ ys) v ↔ Contains (xs ++ ys) v
contains_between w v xs ys other = (
  λ h.
      elim (Contains-append_cases xs (w ∷ ys) v h) [
        | inl left ↦ Contains-append_left xs ys v left
        | inr right ↦ Contains-append_right xs ys v (contains_tail w v ys other right)
      ],
  λ h.
      elim (Contains-append_cases xs ys v h) [
        | inl left ↦ Contains-append_left xs (w ∷ ys) v left
        | inr right ↦ Contains-append_right xs (w ∷ ys) v (contains_cons w v ys right)
      ],
)

pub with_inserted : (xs : List ℕ) (w at : ℕ) (new : List ℕ) → IsRisingList xs → IsPlaceFor w xs at → new ≡ insert xs at w → IsWith w xs new
with_inserted xs w at new rising place is =
    subst (IsWith w xs) (sym is)
    (record {
      rising = rising_inserted xs w at rising place;
      has = (at, omega (arith, place.within, length-insert xs at w place.within), get_or-insert_at xs at w w place.within);
      others = λ v other.
          subst (λ (ys : List ℕ). Contains (insert xs at w) v ↔ Contains ys v) (take-append-drop at xs)
          (contains_between w v (take at xs) (drop at xs) other);
    })

-- ---- a list without the value

removed_gone : (xs : List ℕ) (w at : ℕ) → IsRisingList xs → at < length xs → get_or xs at 0 ≡ w → Contains (remove xs at) w → ⊥
removed_gone xs w at rising within here (k, inside, is) =
    let here_w : get_or xs at w ≡ w = get_or_default xs at w 0 within ∙ here in
    elim (cases_lt k at) [
      | inl before ↦
          omega (arith, get_or-remove_below xs at w k before within, is, here_w, rising k at w before within)
      | inr from ↦
          omega (
            arith,
            get_or-remove_above xs at w k from within,
            is,
            here_w,
            rising at (k + 1) w (omega (arith, from)) (omega (arith, inside, length-remove xs at within)),
          )
    ]

removed_split : (xs : List ℕ) (w at : ℕ) → at < length xs → get_or xs at 0 ≡ w → take at xs ++ w ∷ drop (suc at) xs ≡ xs
removed_split xs w at within here =
    ap (λ (ys : List ℕ). take at xs ++ ys)
    (ap (λ (n : ℕ). n ∷ drop (suc at) xs) (sym here) ∙ sym (drop-cons xs at 0 within))
    ∙ take-append-drop at xs

pub without_removed : (xs : List ℕ) (w at : ℕ) (new : List ℕ) → IsRisingList xs → at < length xs → get_or xs at 0 ≡ w → new ≡ remove xs at → IsWithout w xs new
without_removed xs w at new rising within here is =
    subst (IsWithout w xs) (sym is)
    (record {
      rising = all_pairs_remove (λ u v. u < v) xs at within rising;
      gone = removed_gone xs w at rising within here;
      others = λ v other.
          let between : Contains (take at xs ++ w ∷ drop (suc at) xs) v ↔ Contains (remove xs at) v = contains_between w v (take at xs) (drop (suc at) xs) other in
          let old : Contains xs v ↔ Contains (remove xs at) v = subst (λ (ys : List ℕ). Contains ys v ↔ Contains (remove xs at) v) (removed_split xs w at within here) between in
          (old.1, old.0);
    })

absent_at_place : (xs : List ℕ) (w at : ℕ) → IsPlaceFor w xs at → Contains xs w → ⊥
absent_at_place xs w at place (k, inside, is) =
    elim (cases_lt k at) [
      | inl before ↦ omega (arith, is, place.below k w before)
      | inr from ↦ omega (arith, is, place.above k w from inside)
    ]

pub without_absent : (xs : List ℕ) (w at : ℕ) → IsRisingList xs → IsPlaceFor w xs at → IsWithout w xs xs
without_absent xs w at rising place = record {
  rising = rising;
  gone = absent_at_place xs w at place;
  others = λ v other. (λ h. h, λ h. h);
}

-- ---- at the end of a list

-- all are below what is above the last one
pub above_all : (xs : List ℕ) (w last : ℕ) → IsRisingList xs → slice_get xs (length xs - 1) ≡ Some last → last < w → All (λ v. v < w) xs
above_all xs w last rising at less k d within =
    let is : get_or xs (length xs - 1) d ≡ last = get_or_from_slice_get xs (length xs - 1) last d at in
    elim (cases_lt k (length xs - 1)) [
      | inl before ↦ omega (arith, is, less, rising k (length xs - 1) d before (omega (arith, within)))
      | inr from ↦
          let same : k ≡ length xs - 1 = omega (arith, from, within) in
          rw same (omega (arith, is, less))
    ]

pub with_pushed : (xs : List ℕ) (w : ℕ) (new : List ℕ) → IsRisingList xs → All (λ v. v < w) xs → new ≡ xs ++ w ∷ [] → IsWith w xs new
with_pushed xs w new rising above is =
    with_inserted xs w (length xs) new rising
    (record {
      within = omega arith;
      below = λ k d less. above k d less;
      above = λ k d le within. absurd (omega (arith, le, within));
    })
    (is ∙ sym (insert_end xs w))

pub without_last : (xs : List ℕ) (w : ℕ) (new : List ℕ) → IsRisingList xs → slice_get xs (length xs - 1) ≡ Some w → new ≡ take (length xs - 1) xs → IsWithout w xs new
without_last [] w new rising at is = cc
without_last (x ∷ xs) w new rising at is =
    let last : length (x ∷ xs) - 1 ≡ length xs = omega arith in
    without_removed (x ∷ xs) w (length xs) new rising (omega arith)
    (get_or_from_slice_get (x ∷ xs) (length xs) w 0 (subst (λ (n : ℕ). slice_get (x ∷ xs) n ≡ Some w) last at))
    (is
    ∙ ap (λ (n : ℕ). take n (x ∷ xs)) last
    ∙ sym (ap (λ (ys : List ℕ). take (length xs) (x ∷ xs) ++ ys) (drop-length (x ∷ xs)) ∙ append-nil (take (length xs) (x ∷ xs))))
