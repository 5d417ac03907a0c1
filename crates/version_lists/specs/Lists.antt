-- What becomes of the lists of an index when a row is changed.
use Rattle.std.specs.Prelude.{◌≡◌, ◌≢◌, ◌↔◌, ◌⊎◌, ℕ, List, [], ◌∷◌, length}
use Rattle.std.specs.List.{Contains}
use Rattle.version_lists.specs.declared.rows.list.Column.{Column}
use Rattle.row_core.specs.Rows.{Term}
use Rattle.version_lists.specs.Indexes.{IsRisingList, list_at}

-- the new list rises, has w, and of the others those that the old one has
pub record IsWith (w : ℕ) (old new : List ℕ) : Type 0 where
  pub rising : IsRisingList new
  pub has : Contains new w
  pub others : (v : ℕ) → v ≢ w → Contains new v ↔ Contains old v

-- the new list rises, has no w, and of the others those that the old one has
pub record IsWithout (w : ℕ) (old new : List ℕ) : Type 0 where
  pub rising : IsRisingList new
  pub gone : Contains new w → ⊥
  pub others : (v : ℕ) → v ≢ w → Contains new v ↔ Contains old v

-- the list of the column c changes so, and no other
pub record IsChangedAt (Becomes : List ℕ → List ℕ → Type 0) (c : ℕ) (old new : List Column) : Type 0 where
  pub lengths : length new ≡ length old
  pub here : Becomes (list_at old c) (list_at new c)
  pub elsewhere : (d : ℕ) → d ≢ c → list_at new d ≡ list_at old d

-- an entry has the column c
abbrev pub HasColumn : ℕ → List Term → Type 0
HasColumn c [] = ⊥
HasColumn c (t ∷ row) = (t.col ≡ c) ⊎ HasColumn c row

-- the lists rise, and w is in those of this row's columns
pub record IsListedAt (w : ℕ) (row : List Term) (lists : List Column) : Type 0 where
  pub rising : (c : ℕ) → IsRisingList (list_at lists c)
  pub listed : (c : ℕ) → Contains (list_at lists c) w ↔ HasColumn c row

-- as many lists, and in each the same but for w
pub record IsSameBut (w : ℕ) (old new : List Column) : Type 0 where
  pub lengths : length new ≡ length old
  pub others : (c v : ℕ) → v ≢ w → Contains (list_at new c) v ↔ Contains (list_at old c) v
