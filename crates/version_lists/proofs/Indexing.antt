-- The index of rows that change.
use Rattle.std.proofs.Common.{◌≡◌, ◌≢◌, ◌↔◌, ◌∙◌, ◌⊎◌, inl, inr, ℕ, zero, suc, ◌<◌, ◌≤◌, List, [], ◌∷◌, ◌++◌, length, take, set, get_or, Some, pos, sym, refl, subst, ap, arith, All}
use Rattle.std.specs.List.{AllZip, Contains}
use Rattle.version_lists.specs.declared.rows.list.Column.{Column}
use Rattle.std.specs.Prelude.{slice_get}
use Rattle.std.proofs.lemmas.Bool.{cases_eq, cases_lt}
use Rattle.std.proofs.lemmas.List.{length-set, length-append, length-take, get_or-set_same, get_or-set_other, get_or-take, get_or_past}
use Rattle.std.proofs.lemmas.List.Elements.{All-cons, Contains-get_or}
use Rattle.std.proofs.Math.Seq.{get_or-append_seam}
use Rattle.row_core.specs.Rows.{Term, coefficient, IsKeptRow}
use Rattle.row_core.proofs.Places.{absent, coefficient_at}
use Rattle.row_core.proofs.Walks.{nothing}
use Rattle.version_lists.specs.Indexes.{IsColumnOf, IsIndexOf, list_at, row_at}
use Rattle.version_lists.specs.Lists.{HasColumn, IsListedAt, IsSameBut}
use Rattle.version_lists.specs.Matrices.{IsBelow}
use Rattle.version_lists.proofs.Columns.{listed_within}

-- ---- the versions

pub index_of_none : IsIndexOf [] []
index_of_none = record {
  lengths = refl;
  columns = λ c. record {
    rising = λ i j d less within. absurd (omega (arith, within));
    exact = λ w. (λ h. absurd (omega (arith, h.1)), λ h. absurd (h refl));
  };
}

pub newest_indexed : (rows : List (List (List Term))) (lists : List (List Column)) → AllZip IsIndexOf rows lists → IsIndexOf (get_or rows 0 []) (get_or lists 0 [])
newest_indexed [] [] are = index_of_none
newest_indexed [] (l ∷ lists) are = absurd are
newest_indexed (r ∷ rows) [] are = absurd are
newest_indexed (r ∷ rows) (l ∷ lists) are = are.0

pub take_indexed : (n : ℕ) (rows : List (List (List Term))) (lists : List (List Column)) → AllZip IsIndexOf rows lists → AllZip IsIndexOf (take n rows) (take n lists)
take_indexed zero rows lists are = tt
take_indexed (suc n) [] [] are = tt
take_indexed (suc n) [] (l ∷ lists) are = absurd are
take_indexed (suc n) (r ∷ rows) [] are = absurd are
take_indexed (suc n) (r ∷ rows) (l ∷ lists) are = (are.0, take_indexed n rows lists are.1)

pub as_many : (rows : List (List (List Term))) (lists : List (List Column)) → AllZip IsIndexOf rows lists → length lists ≡ length rows
as_many [] [] are = refl
as_many [] (l ∷ lists) are = absurd are
as_many (r ∷ rows) [] are = absurd are
as_many (r ∷ rows) (l ∷ lists) are = ap suc (as_many rows lists are.1)

-- ---- a row and its columns

column_or_none : (c : ℕ) (row : List Term) → HasColumn c row ⊎ All (λ t. t.col ≢ c) row
column_or_none c [] = inr (λ k d within. absurd (omega (arith, within)))
column_or_none c (t ∷ row) =
    elim (cases_eq t.col c) [
      | inl e ↦ inl (inl e)
      | inr other ↦
          elim (column_or_none c row) [
            | inl has ↦ inl (inr has)
            | inr none ↦ inr (All-cons (λ s. s.col ≢ c) t row other none)
          ]
    ]

has_place : (c : ℕ) (row : List Term) → HasColumn c row → (k : ℕ) × (k < length row) × ((get_or row k nothing).col ≡ c)
has_place c [] has = absurd has
has_place c (t ∷ row) (inl e) = (zero, omega arith, e)
has_place c (t ∷ row) (inr has) =
    let rest : (k : ℕ) × (k < length row) × ((get_or row k nothing).col ≡ c) = has_place c row has in
    (suc rest.0, omega (arith, rest.1), rest.2)

-- a row in lowest terms has the columns with a number that is not 0
pub number_at_column : (c : ℕ) (row : List Term) → IsKeptRow row → (coefficient c row ≢ pos 0) ↔ HasColumn c row
number_at_column c row kept = (
  λ number.
      elim (column_or_none c row) [
        | inl has ↦ has
        | inr none ↦ absurd (number (absent c row none))
      ],
  λ has zero_there.
      let place : (k : ℕ) × (k < length row) × ((get_or row k nothing).col ≡ c) = has_place c row has in
      kept.lowest.nonzero place.0 nothing place.1
      (sym (coefficient_at row place.0 nothing kept.lowest.rising place.1)
      ∙ ap (λ (n : ℕ). coefficient n row) place.2
      ∙ zero_there),
)

-- ---- a row is replaced

pub row_got : (rows : List (List Term)) (w : ℕ) (row : List Term) → slice_get rows w ≡ Some row → row ≡ row_at rows w
row_got [] w row e = cc
row_got (r ∷ rows) zero row e = cc
row_got (r ∷ rows) (suc w) row e = row_got rows w row e

pub listed_before : (rows : List (List Term)) (lists : List Column) (w : ℕ) (row : List Term) → IsIndexOf rows lists → row ≡ row_at rows w → IsKeptRow row → IsListedAt w row lists
listed_before rows lists w row index is kept = record {
  rising = λ c. (index.columns c).rising;
  listed = λ c.
      let exact : Contains (list_at lists c) w ↔ (coefficient c row ≢ pos 0) =
      subst (λ (r : List Term). Contains (list_at lists c) w ↔ (coefficient c r ≢ pos 0)) (sym is) ((index.columns c).exact w) in
      (λ h. (number_at_column c row kept).0 (exact.0 h), λ h. exact.1 ((number_at_column c row kept).1 h));
}

own_column : (rows : List (List Term)) (lists : List Column) (w c : ℕ) (row : List Term) → w < length rows → IsKeptRow row → IsListedAt w row lists
    → Contains (list_at lists c) w ↔ (coefficient c (row_at (set rows w row) w) ≢ pos 0)
own_column rows lists w c row within kept own =
    let read : row ≡ row_at (set rows w row) w = sym (get_or-set_same rows w row [] within) in
    subst (λ (r : List Term). Contains (list_at lists c) w ↔ (coefficient c r ≢ pos 0)) read
    (λ h. (number_at_column c row kept).1 ((own.listed c).0 h), λ h. (own.listed c).1 ((number_at_column c row kept).0 h))

other_column : (rows : List (List Term)) (old new : List Column) (w c v : ℕ) (row : List Term) → v ≢ w → IsIndexOf rows old → IsSameBut w old new
    → Contains (list_at new c) v ↔ (coefficient c (row_at (set rows w row) v) ≢ pos 0)
other_column rows old new w c v row other index same =
    let read : row_at rows v ≡ row_at (set rows w row) v = sym (get_or-set_other rows w v row [] other) in
    subst (λ (r : List Term). Contains (list_at new c) v ↔ (coefficient c r ≢ pos 0)) read
    (λ h. ((index.columns c).exact v).0 ((same.others c v other).0 h), λ h. (same.others c v other).1 (((index.columns c).exact v).1 h))

pub index_after : (rows : List (List Term)) (old new : List Column) (w : ℕ) (row : List Term) → IsIndexOf rows old → w < length rows → IsKeptRow row → IsListedAt w row new → IsSameBut w old new
    → IsIndexOf (set rows w row) new
index_after rows old new w row index within kept own same = record {
  lengths = same.lengths ∙ index.lengths ∙ sym (length-set rows w row);
  columns = λ c. record {
    rising = own.rising c;
    exact = λ v.
        elim (cases_eq v w) [
          | inl e ↦
              subst (λ (u : ℕ). Contains (list_at new c) u ↔ (coefficient c (row_at (set rows w row) u) ≢ pos 0)) (sym e)
              (own_column rows new w c row within kept own)
          | inr other ↦ other_column rows old new w c v row other index same
        ];
  };
}

-- ---- what a reader learns

has_at : (row : List Term) (k : ℕ) (d : Term) → k < length row → HasColumn (get_or row k d).col row
has_at [] k d within = absurd (omega (arith, within))
has_at (t ∷ row) zero d within = inl refl
has_at (t ∷ row) (suc k) d within = inr (has_at row k d (omega (arith, within)))

-- the columns of a row have lists
pub row_below : (rows : List (List Term)) (lists : List Column) (w : ℕ) (row : List Term) → IsIndexOf rows lists → row ≡ row_at rows w → IsKeptRow row → All (λ t. t.col < length rows) row
row_below rows lists w row index is kept k d within =
    let own : IsListedAt w row lists = listed_before rows lists w row index is kept in
    omega (
      arith,
      index.lengths,
      listed_within lists (get_or row k d).col w ((own.listed (get_or row k d).col).1 (has_at row k d within)),
    )

row_within : (rows : List (List Term)) (c w : ℕ) → coefficient c (row_at rows w) ≢ pos 0 → w < length rows
row_within [] c w number = absurd (number refl)
row_within (r ∷ rows) c zero number = omega arith
row_within (r ∷ rows) c (suc w) number = omega (arith, row_within rows c w number)

-- the slots of a column are slots of rows
pub slots_within : (rows : List (List Term)) (c : ℕ) (list : List ℕ) → IsColumnOf rows c list → All (λ w. w < length rows) list
slots_within rows c list is k d within =
    row_within rows c (get_or list k d) ((is.exact (get_or list k d)).0 (Contains-get_or list k d within))

-- ---- a slot is appended

list_pushed : (lists : List Column) (v : Column) (c : ℕ) → v.slots.items ≡ [] → list_at (lists ++ v ∷ []) c ≡ list_at lists c
list_pushed [] v zero empty = empty
list_pushed [] v (suc c) empty = refl
list_pushed (l ∷ lists) v zero empty = refl
list_pushed (l ∷ lists) v (suc c) empty = list_pushed lists v c empty

row_pushed : (rows : List (List Term)) (w : ℕ) → row_at (rows ++ [] ∷ []) w ≡ row_at rows w
row_pushed [] zero = refl
row_pushed [] (suc w) = refl
row_pushed (r ∷ rows) zero = refl
row_pushed (r ∷ rows) (suc w) = row_pushed rows w

pub index_pushed : (rows : List (List Term)) (lists : List Column) (v : Column) → v.slots.items ≡ [] → IsIndexOf rows lists → IsIndexOf (rows ++ [] ∷ []) (lists ++ v ∷ [])
index_pushed rows lists v empty index = record {
  lengths = omega (arith, length-append lists (v ∷ []), length-append rows ([] ∷ []), index.lengths);
  columns = λ c. record {
    rising = rw (list_pushed lists v c empty) (index.columns c).rising;
    exact = λ w. rw (list_pushed lists v c empty, row_pushed rows w) ((index.columns c).exact w);
  };
}

pub none_kept : IsKeptRow []
none_kept = record {
  lowest = record {
    rising = λ i j d less within. absurd (omega (arith, within));
    nonzero = λ k d within. absurd (omega (arith, within));
    coprime = λ d some divides. absurd (omega (arith, some));
  };
  fits = λ k d within. absurd (omega (arith, within));
}

set_last : (rows : List (List Term)) (row : List Term) → set (rows ++ [] ∷ []) (length rows) row ≡ rows ++ row ∷ []
set_last [] row = refl
set_last (r ∷ rows) row = ap (λ rs. r ∷ rs) (set_last rows row)

-- the empty row of the slot that was appended is not listed
pub listed_pushed : (rows : List (List Term)) (lists : List Column) (v : Column) → v.slots.items ≡ [] → IsIndexOf rows lists → IsListedAt (length rows) [] (lists ++ v ∷ [])
listed_pushed rows lists v empty index =
    listed_before (rows ++ [] ∷ []) (lists ++ v ∷ []) (length rows) [] (index_pushed rows lists v empty index) (sym (get_or-append_seam rows [] [] [])) none_kept

pub index_appended : (rows : List (List Term)) (lists new : List Column) (v : Column) (row : List Term) → v.slots.items ≡ [] → IsIndexOf rows lists → IsKeptRow row → IsListedAt (length rows) row new
    → IsSameBut (length rows) (lists ++ v ∷ []) new → IsIndexOf (rows ++ row ∷ []) new
index_appended rows lists new v row empty index kept own same =
    subst (λ (rs : List (List Term)). IsIndexOf rs new) (set_last rows row)
    (index_after (rows ++ [] ∷ []) (lists ++ v ∷ []) new (length rows) row (index_pushed rows lists v empty index)
    (omega (arith, length-append rows ([] ∷ []))) kept own same)

-- ---- the last slots go

list_cut : (n : ℕ) (lists : List Column) (c : ℕ) → c < n → list_at (take n lists) c ≡ list_at lists c
list_cut zero lists c less = absurd (omega (arith, less))
list_cut (suc n) [] c less = refl
list_cut (suc n) (l ∷ lists) zero less = refl
list_cut (suc n) (l ∷ lists) (suc c) less = list_cut n lists c (omega (arith, less))

list_past : (n : ℕ) (lists : List Column) (c : ℕ) → n ≤ c → list_at (take n lists) c ≡ []
list_past zero lists c from = refl
list_past (suc n) [] c from = refl
list_past (suc n) (l ∷ lists) zero from = absurd (omega (arith, from))
list_past (suc n) (l ∷ lists) (suc c) from = list_past n lists c (omega (arith, from))

-- the rows that go are empty
row_cut : (n : ℕ) (rows : List (List Term)) (w : ℕ) → ((v : ℕ) → n ≤ v → row_at rows v ≡ []) → row_at (take n rows) w ≡ row_at rows w
row_cut n rows w empty =
    elim (cases_lt w n) [
      | inl less ↦ get_or-take n rows w [] less
      | inr from ↦ get_or_past (take n rows) w [] (omega (arith, length-take n rows, from)) ∙ sym (empty w (omega (arith, from)))
    ]

-- no row stands at a column from n on
none_from : (n : ℕ) (rows : List (List Term)) (c w : ℕ) → n ≤ c → All (IsBelow n) rows → coefficient c (row_at rows w) ≡ pos 0
none_from n rows c w from below =
    elim (cases_lt w (length rows)) [
      | inl less ↦ absent c (row_at rows w) (λ k d within. omega (arith, below w [] less k d within, from))
      | inr past ↦ ap (λ (row : List Term). coefficient c row) (get_or_past rows w [] (omega (arith, past)))
    ]

column_cut : (n : ℕ) (rows : List (List Term)) (lists : List Column) (c : ℕ) → All (IsBelow n) rows → IsColumnOf rows c (list_at lists c) → IsColumnOf rows c (list_at (take n lists) c)
column_cut n rows lists c below is =
    elim (cases_lt c n) [
      | inl less ↦ subst (λ (list : List ℕ). IsColumnOf rows c list) (sym (list_cut n lists c less)) is
      | inr from ↦
          subst (λ (list : List ℕ). IsColumnOf rows c list) (sym (list_past n lists c (omega (arith, from))))
          (record {
            rising = λ i j d less within. absurd (omega (arith, within));
            exact = λ w. (λ h. absurd (omega (arith, h.1)), λ h. absurd (h (none_from n rows c w (omega (arith, from)) below)));
          })
    ]

pub index_cut : (n : ℕ) (rows : List (List Term)) (lists : List Column) → ((w : ℕ) → n ≤ w → row_at rows w ≡ []) → All (IsBelow n) rows → IsIndexOf rows lists
    → IsIndexOf (take n rows) (take n lists)
index_cut n rows lists empty below index = record {
  lengths = omega (arith, length-take n lists, length-take n rows, index.lengths);
  columns = λ c.
      let is : IsColumnOf rows c (list_at (take n lists) c) = column_cut n rows lists c below (index.columns c) in
      record {
        rising = is.rising;
        exact = λ w. rw (row_cut n rows w empty) (is.exact w);
      };
}
