-- What the logs of the marks stand for: the earlier versions.
use Rattle.std.specs.Prelude.{◌≡◌, ◌≢◌, ℕ, ◌+◌, ◌<◌, ◌≤◌, List, [], ◌∷◌, length, take, slice_set, slice_get}
use Rattle.std.specs.Prelude.{slice_index, slice_index_or, IsSomeAnd, All, AllPairs, min, vec_capacity}
use Rattle.std.specs.List.{insert}
use Rattle.version_lists.specs.declared.versions.TheConstants.{VERSION_LIMIT}
use Rattle.version_lists.specs.declared.versions.log.Log.{Log}
use Rattle.version_lists.specs.declared.versions.log.Removed.{Removed}
use Rattle.version_lists.specs.declared.versions.log.Replaced.{Replaced}
use Rattle.version_lists.specs.declared.versions.log.Slotted.{Slotted}

-- the list with what was replaced at its places again, the last one first. `part` is the element or the slot.
abbrev pub undo : {T X : Type 0} → (Replaced T → X) → List (Replaced T) → List X → List X
undo part [] xs = xs
undo part (r ∷ rs) xs = slice_set (undo part rs xs) r.at (part r)

-- the list with what left where it stood, and what was replaced before, the last one first
abbrev pub reopen : {T X : Type 0} → (Replaced T → X) → List (Removed T) → List X → List X
reopen part [] xs = xs
reopen part (gone ∷ more) xs =
    undo part gone.earlier.items (insert (reopen part more xs) gone.element.at (part gone.element))

-- the list as it was at the log's mark
abbrev pub at_mark : {T X : Type 0} → (Replaced T → X) → Log T → List X → List X
at_mark part log xs = reopen part log.removed.items (undo part log.replaced.items (take log.len xs))

-- the elements at the log's mark
abbrev pub items_at : {T : Type 0} → Log T → List T → List T
items_at log items = at_mark (λ r. r.value) log items

-- the slots at the log's mark
abbrev pub slots_at : {T : Type 0} → Log T → List ℕ → List ℕ
slots_at log slots = at_mark (λ r. r.slot) log slots

-- the earlier versions of a list, where the newest log is first
abbrev pub versions : {T : Type 0} → List T → List (Log T) → List (List T)
versions items [] = []
versions items (log ∷ logs) = items_at log items ∷ versions (items_at log items) logs

-- the log has an element of the place at this slot
abbrev pub HasAt : {T : Type 0} → List (Replaced T) → ℕ → ℕ → Type 0
HasAt rs slot at = IsSomeAnd (slice_get rs slot) (λ r. r.at ≡ at)

-- what left has its place among what n elements become as those that left later return, and what was
-- replaced before has its own
abbrev pub AreGone : {T : Type 0} → ℕ → List (Removed T) → Type 0
AreGone n [] = Unit {0}
AreGone n (gone ∷ more) =
    (gone.element.at ≤ n + length more)
    × All (λ r. r.at ≤ n + length more) gone.earlier.items
    × AreGone n more

-- the log is one of a list with these slots: each place is at the slot that it has, and so there once
pub record IsLogOf {T : Type 0} (slots : List ℕ) (log : Log T) : Type 0 where
  pub no_longer : log.len ≤ length slots
  pub places : All (λ r. r.at < log.len) log.replaced.items
  pub found : (k : ℕ) (d : Replaced T) → k < length log.replaced.items
      → slice_index slots (slice_index_or log.replaced.items k d).at ≡ k
  pub once : AllPairs (λ r s. r.at ≢ s.at) log.replaced.items
  pub gone : AreGone log.len log.removed.items

-- each log is one of the list as it was at the next newer mark
abbrev pub AreLogsOf : {T : Type 0} → List ℕ → List (Log T) → Type 0
AreLogsOf slots [] = Unit {0}
AreLogsOf slots (log ∷ logs) = IsLogOf slots log × AreLogsOf (slots_at log slots) logs

-- the place was there at the newest mark, and was not written since
abbrev pub IsAsMarked : {T : Type 0} → List (Log T) → ℕ → ℕ → Type 0
IsAsMarked [] slot at = ⊥
IsAsMarked (log ∷ logs) slot at = (at < log.len) × ¬ HasAt log.replaced.items slot at

-- the place was there at the newest mark
abbrev pub IsMarked : {T : Type 0} → List (Log T) → ℕ → Type 0
IsMarked [] at = ⊥
IsMarked (log ∷ logs) at = at < log.len

-- there is a slot for each element
abbrev pub AreSlotted : {T : Type 0} → Slotted T → Type 0
AreSlotted list = length list.slots.items ≡ length list.items.items

-- there is memory for n elements with their slots
pub record HasRoomFor {T : Type 0} (n : ℕ) (list : Slotted T) : Type 0 where
  pub items : n ≤ vec_capacity list.items
  pub slots : n ≤ vec_capacity list.slots

-- there is as much memory as before
pub record KeepsRoom {T : Type 0} (old new : Slotted T) : Type 0 where
  pub items : vec_capacity new.items ≡ vec_capacity old.items
  pub slots : vec_capacity new.slots ≡ vec_capacity old.slots

-- for how many elements with their slots there is memory
abbrev pub room_of : {T : Type 0} → Slotted T → ℕ
room_of list = min (vec_capacity list.items) (vec_capacity list.slots)

-- the fields of a list: a slot for each element, logs of these, no more than the limit, room for that many,
-- and space for each version
pub record IsSound {T : Type 0} (list : Slotted T) (stack : List (Log T)) (capacity : ℕ) : Type 0 where
  pub lengths : AreSlotted list
  pub logs : AreLogsOf list.slots.items stack
  pub few : length stack ≤ VERSION_LIMIT
  pub room : VERSION_LIMIT ≤ capacity
  pub spacious : All (λ version. length version ≤ room_of list) (versions list.items.items stack)
