-- Sums to which a multiple of a pivot's numbers is added in place.
use Rattle.std.specs.Prelude.{◌≡◌, ◌≢◌, ◌⊎◌, ℕ, ◌<◌, ◌≤◌, List, length, get_or, ℤ, pos, ◌+ℤ◌, ◌*ℤ◌}
use Rattle.std.specs.Prelude.{unsigned_abs, All, Option, None, Some}
use Rattle.frac_core.specs.declared.frac.TheConstants.{PART_BOUND}
use Rattle.path_lines.specs.declared.table.Inside.{Inside}
use Rattle.path_lines.specs.Numbers.{number_at}

-- it is one of these
abbrev pub IsAmong : List ℕ → ℕ → Type 0
IsAmong places at = (i : ℕ) × (i < length places) × ((d : ℕ) → get_or places i d ≡ at)

-- of so many first numbers, those at other places are 0
pub record ArePlacesTo (count : ℕ) (numbers : List ℤ) (places : List ℕ) : Type 0 where
  pub within : All (λ at. at < count) places
  pub apart : (i j d : ℕ) → i < j → j < length places → get_or places i d ≢ get_or places j d
  pub each : (at : ℕ) → at < count
      → IsAmong places at ⊎ (All (λ k. k ≢ at) places × (number_at numbers at ≡ pos 0))

-- the numbers at other places are 0
abbrev pub ArePlaces : List ℤ → List ℕ → Type 0
ArePlaces numbers places = ArePlacesTo (length numbers) numbers places

-- a number with a multiple of another is too large
abbrev pub HasLargeSum : List ℤ → ℤ → List ℤ → Type 0
HasLargeSum by factor others = (at : ℕ) × (at < length by)
    × (PART_BOUND ≤ unsigned_abs (number_at by at +ℤ factor *ℤ number_at others at))

-- the line is inside, and its sum's own number is 1
abbrev pub IsPlainLine : Option Inside → Type 0
IsPlainLine None = ⊥
IsPlainLine (Some inside) = inside.sum.own ≡ pos 1
