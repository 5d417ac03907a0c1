-- In which rows each column stands.
use Rattle.std.specs.Prelude.{◌≡◌, ◌≢◌, ◌↔◌, ℕ, ◌<◌, List, [], map, length, slice_index_or, AllPairs, pos}
use Rattle.std.specs.List.{AllZip, Contains}
use Rattle.version_lists.specs.declared.rows.list.Column.{Column}
use Rattle.row_core.specs.Rows.{Term, coefficient}
use Rattle.version_lists.specs.Versions.{Versions}

-- the row of a slot, with nothing in it past the last slot
abbrev pub row_at : List (List Term) → ℕ → List Term
row_at rows w = slice_index_or rows w []

-- each slot is below all later ones
abbrev pub IsRisingList : List ℕ → Type 0
IsRisingList list = AllPairs (λ v w. v < w) list

-- the slots of the rows in which the column stands, rising
pub record IsColumnOf (rows : List (List Term)) (c : ℕ) (list : List ℕ) : Type 0 where
  pub rising : IsRisingList list
  pub exact : (w : ℕ) → Contains list w ↔ (coefficient c (row_at rows w) ≢ pos 0)

-- the list of a column, with nothing in it past the last slot
abbrev pub list_at : List Column → ℕ → List ℕ
list_at lists c = slice_index_or (map (λ (v : Column). v.slots.items) lists) c []

-- a list for each slot, of the rows in which it stands as a column
pub record IsIndexOf (rows : List (List Term)) (lists : List Column) : Type 0 where
  pub lengths : length lists ≡ length rows
  pub columns : (c : ℕ) → IsColumnOf rows c (list_at lists c)

-- the lists are the index of the rows, now and at each mark
pub record AreIndexed (rows : Versions (List Term)) (lists : Versions Column) : Type 0 where
  pub now : IsIndexOf rows.items lists.items
  pub before : AllZip IsIndexOf rows.before lists.before
