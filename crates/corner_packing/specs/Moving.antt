-- Lists whose elements move to their places, one slot after the other.
use Rattle.std.specs.Prelude.{◌≡◌, ◌≢◌, ◌⊎◌, ℕ, ◌<◌, ◌≤◌, List, [], length, slice_index_or, slice_set, All}
use Rattle.row_core.specs.Rows.{Term}
use Rattle.row_core.specs.Renames.{place_in}
use Rattle.corner_table.specs.declared.table.TheConstants.{LEVELS, MOST_SLOTS}
use Rattle.version_lists.specs.Indexes.{row_at}

-- the slot has a place: 0 is that of the first level alone
abbrev pub IsPlaced : List ℕ → ℕ → Type 0
IsPlaced places w = (w < LEVELS) ⊎ (place_in places w ≢ 0)

-- the slots that have places have all below the count, in their order, and each no higher one than before
pub record AreRisingPlaces (places : List ℕ) (count : ℕ) : Type 0 where
  pub levels : LEVELS ≤ length places
  pub most : length places ≤ MOST_SLOTS
  pub few : count ≤ length places
  pub own : (w : ℕ) → w < LEVELS → place_in places w ≡ w
  pub within : (w : ℕ) → IsPlaced places w → place_in places w < count
  pub low : (w : ℕ) → place_in places w ≤ w
  pub rising : (v w : ℕ) → v < w → IsPlaced places v → IsPlaced places w
      → place_in places v < place_in places w
  pub onto : (v : ℕ) → v < count → (w : ℕ) × IsPlaced places w × (place_in places w ≡ v)

-- where the slot has a place, x is there, and else nothing has changed
pub record IsMoved {X : Type 0} (places : List ℕ) (w : ℕ) (x : X) (old new : List X) : Type 0 where
  pub placed : IsPlaced places w → new ≡ slice_set old (place_in places w) x
  pub free : (IsPlaced places w → ⊥) → new ≡ old

-- the slots below i are at their places, with what they had and what the change makes of it; those from i on
-- have what they had, d past the last one
pub record AreMoved {X : Type 0} (places : List ℕ) (change : ℕ → X → X) (d : X) (i : ℕ) (old new : List X)
    : Type 0 where
  pub length_is : length new ≡ length old
  pub later : (w : ℕ) → i ≤ w → slice_index_or new w d ≡ slice_index_or old w d
  pub moved : (w : ℕ) → w < i → IsPlaced places w
      → slice_index_or new (place_in places w) d ≡ change w (slice_index_or old w d)

-- there is what the slots that have places had, with what the change makes of it, and no more
pub record AreAtPlaces {X : Type 0} (places : List ℕ) (count : ℕ) (change : ℕ → X → X) (d : X)
    (old new : List X) : Type 0 where
  pub length_is : length new ≡ count
  pub moved : (w : ℕ) → IsPlaced places w
      → slice_index_or new (place_in places w) d ≡ change w (slice_index_or old w d)

-- the columns of the row have places
abbrev pub HasPlaces : List ℕ → List Term → Type 0
HasPlaces places row = All (λ t. IsPlaced places t.col) row

-- the rows from the count on are empty below i, and the others as they were
pub record AreCleared (count i : ℕ) (old new : List (List Term)) : Type 0 where
  pub length_is : length new ≡ length old
  pub kept : (w : ℕ) → w < count → row_at new w ≡ row_at old w
  pub empty : (w : ℕ) → count ≤ w → w < i → row_at new w ≡ []
