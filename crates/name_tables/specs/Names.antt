-- Lists of distinct names, each a list of bytes, and what stands under them.
use Rattle.std.specs.Prelude.{◌≡◌, ◌≢◌, ◌<◌, ℕ, List, Option, None, Some, IsSome, length, remove, position}
use Rattle.std.specs.Prelude.{AllPairs}
use Rattle.std.specs.List.{AllZip}
use Rattle.std.specs.Map.{keys_of, lookup, set_value}
use Rattle.std.specs.Map as map
use Rattle.std.specs.Str.{bytes_eq}
use Rattle.name_tables.specs.declared.stops.NameStop.{NameStop}
use Rattle.name_tables.specs.declared.stops.NameStop.TheVariants.{Taken, Full, Unknown, OutOfMemory}

-- ---- names

-- the names in order, and how many there may be
pub record NameList : Type 0 where
  pub names : List (List ℕ)
  pub limit : ℕ

-- where a name stands in the list, if it does
abbrev pub place_of : List (List ℕ) → List ℕ → Option ℕ
place_of names name = position (bytes_eq name) names

-- no name stands twice
abbrev pub AreDistinct : List (List ℕ) → Type 0
AreDistinct names = AllPairs (λ a b. a ≢ b) names

-- the name isn't there, and there is room for it
pub record IsNew (limit : ℕ) (names : List (List ℕ)) (name : List ℕ) : Type 0 where
  pub absent : place_of names name ≡ None
  pub room : length names < limit

-- when a name that is to be added may be refused
abbrev pub MayRefuse : ℕ → List (List ℕ) → List ℕ → NameStop → Type 0
MayRefuse limit names name Taken = IsSome (place_of names name)
MayRefuse limit names name Full = (place_of names name ≡ None) × (length names ≡ limit)
MayRefuse limit names name Unknown = ⊥
MayRefuse limit names name OutOfMemory = IsNew limit names name

-- the name has left its place, and those after it have closed up
abbrev pub IsWithout : NameList → List ℕ → NameList → Type 0
IsWithout old name new =
    (place : ℕ) × (place_of old.names name ≡ Some place)
    × (new ≡ record old { names = remove old.names place })

-- ---- values under names

module _ {V : Type 0} where
  -- the names, in order
  abbrev pub names_of : List (List ℕ × V) → List (List ℕ)
  names_of entries = keys_of entries

  -- the values, in order
  abbrev pub values_of : List (List ℕ × V) → List V
  values_of entries = map.values_of entries

  -- what stands under a name, if it is there
  abbrev pub value_of : List (List ℕ × V) → List ℕ → Option V
  value_of entries name = lookup (bytes_eq name) entries

  -- the entries, with another value under the name
  abbrev pub with_value : List (List ℕ × V) → List ℕ → V → List (List ℕ × V)
  with_value entries name value = set_value (bytes_eq name) entries value

  -- the same names in the same order, over values that are clones of the old ones
  abbrev pub AreClones : (V → V → Type 0) → List (List ℕ × V) → List (List ℕ × V) → Type 0
  AreClones is_clone old new = AllZip (λ p q. (q.0 ≡ p.0) × is_clone p.1 q.1) old new
