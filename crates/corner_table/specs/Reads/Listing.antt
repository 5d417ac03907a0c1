-- Lists of slots with flags.
use Rattle.std.specs.Prelude.{◌≡◌, ◌≢◌, ◌⊎◌, ℕ, ◌+◌, ◌<◌, ◌≤◌, Bool, true, false, List, length}
use Rattle.std.specs.Prelude.{slice_index_or}
use Rattle.std.specs.Prelude.{All, Contains}
use Rattle.corner_table.specs.declared.table.TheConstants.{LEVELS}

-- each listed slot has a flag, and each slot that is flagged is listed
pub record AreFlagged (lines : List ℕ) (flags : List Bool) : Type 0 where
  pub within : All (λ w. w < length flags) lines
  pub listed : (w : ℕ) → slice_index_or flags w false ≡ true → Contains lines w

-- with this slot, and no other that was not listed
pub record IsListed (line : ℕ) (old new : List ℕ) : Type 0 where
  pub has : Contains new line
  pub keeps : (w : ℕ) → Contains old w → Contains new w
  pub others : (w : ℕ) → Contains new w → Contains old w ⊎ (w ≡ line)

-- with this slot, unless it is a level's or w
abbrev pub IsListedBut : ℕ → ℕ → List ℕ → List ℕ → Type 0
IsListedBut w line old new = ((LEVELS ≤ line) × (line ≢ w) × IsListed line old new)
    ⊎ ((LEVELS ≤ line → line ≢ w → ⊥) × (new ≡ old))

-- without one entry of this slot
pub record IsWithout (line : ℕ) (old new : List ℕ) : Type 0 where
  pub shorter : length new + 1 ≡ length old
  pub keeps : (w : ℕ) → w ≢ line → Contains old w → Contains new w
  pub others : (w : ℕ) → Contains new w → Contains old w

-- without each entry of this slot
pub record HasLeft (line : ℕ) (old new : List ℕ) : Type 0 where
  pub gone : Contains new line → ⊥
  pub keeps : (w : ℕ) → w ≢ line → Contains old w → Contains new w
  pub others : (w : ℕ) → Contains new w → Contains old w
