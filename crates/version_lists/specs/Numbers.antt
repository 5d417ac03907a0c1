-- What a contract sees of the slots that numbers have.
use Rattle.std.specs.Prelude.{◌≡◌, ◌≢◌, ℕ, zero, suc, ◌<◌, ◌≤◌, cond, nat_eq, List, [], ◌∷◌, length, map}
use Rattle.std.specs.Prelude.{take, slice_index_or, All, AllPairs}
use Rattle.version_lists.specs.declared.slots.Numbered.{Numbered}
use Rattle.version_lists.specs.Versions.{Versions}

-- the slots by number, 0 of a number that has none: of now, and of each earlier version, the newest first
pub record Numbers : Type 0 where
  pub items : List ℕ
  pub before : List (List ℕ)

-- the number has this slot, and all others have theirs
pub record IsNumbered (number slot : ℕ) (old new : List ℕ) : Type 0 where
  pub here : slice_index_or new number 0 ≡ slot
  pub others : (n : ℕ) → n ≢ number → slice_index_or new n 0 ≡ slice_index_or old n 0

-- each slot has another place, and so have the numbers that have it; there is none past the last place
abbrev pub AreRenumbered : List ℕ → List ℕ → List ℕ → Type 0
AreRenumbered places old new = (n : ℕ)
    → slice_index_or new n 0 ≡ slice_index_or places (slice_index_or old n 0) 0

-- ---- how they are kept

-- the slots by number with this slot at the number
abbrev pub with_number : ℕ → ℕ → List ℕ → List ℕ
with_number zero slot [] = slot ∷ []
with_number zero slot (s ∷ slots) = slot ∷ slots
with_number (suc n) slot [] = 0 ∷ with_number n slot []
with_number (suc n) slot (s ∷ slots) = s ∷ with_number n slot slots

-- the slots by number of these numbers that have one
abbrev pub by_number : List Numbered → List ℕ
by_number [] = []
by_number (one ∷ rest) = with_number one.number one.slot (by_number rest)

-- each number is below all later ones
abbrev pub IsRising : List Numbered → Type 0
IsRising kept = AllPairs (λ a b. a.number < b.number) kept

-- the numbers rise, now and in each earlier version
pub record AreRising (kept : Versions Numbered) : Type 0 where
  pub now : IsRising kept.items
  pub before : All IsRising kept.before

-- those whose slot has a place other than 0, with it
abbrev pub with_places : List ℕ → List Numbered → List Numbered
with_places places [] = []
with_places places (one ∷ rest) =
    cond
    (nat_eq (slice_index_or places one.slot 0) 0)
    (with_places places rest)
    (record { number = one.number; slot = slice_index_or places one.slot 0 } ∷ with_places places rest)

-- the first i are packed into the first k places, and the others are as before
pub record ArePacked (places : List ℕ) (old : List Numbered) (i k : ℕ) (items : List Numbered) : Type 0 where
  pub few : k ≤ i
  pub long : length items ≡ length old
  pub first : take k items ≡ with_places places (take i old)
  pub others : (n : ℕ) (d : Numbered) → i ≤ n → slice_index_or items n d ≡ slice_index_or old n d

-- what is seen of the numbers that are kept
abbrev pub numbers_of : Versions Numbered → Numbers
numbers_of kept = record { items = by_number kept.items; before = map by_number kept.before }
