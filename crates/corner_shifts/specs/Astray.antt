-- The stays that may not stand at their targets.
use Rattle.std.specs.Prelude.{◌≡◌, ◌≢◌, ◌⊎◌, ℕ, List, All, Contains, true, pos}
use Rattle.corner_table.specs.Kept.{IsStayOwner}
use Rattle.corner_table.specs.Tables.{Lists, entry, slot_at, standing_at}
use Rattle.corner_shifts.specs.declared.astray.Astray.{Astray}
use Rattle.corner_shifts.specs.Stood.{stay_slot}

-- each stay stands at its target, or its line's slot is listed
abbrev pub AreAstray : Lists → List ℕ → Type 0
AreAstray t lines = All (λ s. ((standing_at t (stay_slot t s.attr)).value.num ≡ pos 0)
    ⊎ Contains lines (stay_slot t s.attr)) t.stays

-- where the slots of those that may not are known, they are listed
abbrev pub IsAstray : Lists → Astray → Type 0
IsAstray t a = a.is_known ≡ true → AreAstray t a.lines

-- no stay goes astray: whichever may be astray then, no other may now
abbrev pub NoneGoesAstray : Lists → Lists → Type 0
NoneGoesAstray old new = (lines : List ℕ) → AreAstray old lines → AreAstray new lines

-- ---- what is listed where an outside line moves

-- the slot too, if it is of a stay's line
pub record IsStayListed (t : Lists) (w : ℕ) (old new : List ℕ) : Type 0 where
  pub keeps : (v : ℕ) → Contains old v → Contains new v
  pub has : IsStayOwner (slot_at t w).owner → Contains new w

-- those of these slots too that are of stays' lines
pub record AreStaysListed (t : Lists) (ws old new : List ℕ) : Type 0 where
  pub keeps : (v : ℕ) → Contains old v → Contains new v
  pub has : (w : ℕ) → Contains ws w → IsStayOwner (slot_at t w).owner → Contains new w

-- those stays' lines too in whose rows the line stands; what may be astray was known
pub record AreMovedListed (t : Lists) (line : ℕ) (old new : Astray) : Type 0 where
  pub known : old.is_known ≡ true
  pub keeps : (v : ℕ) → Contains old.lines v → Contains new.lines v
  pub has : (w : ℕ) → entry t w line ≢ pos 0 → IsStayOwner (slot_at t w).owner → Contains new.lines w

-- the same, if it is known what may be astray
abbrev pub ListsAstray : Lists → ℕ → Astray → Astray → Type 0
ListsAstray t line old new = new.is_known ≡ true → AreMovedListed t line old new

-- ---- what is listed where a line enters

-- its slot too, if it is a stay's, and those stays' lines in whose rows it stands
pub record AreExchangedListed (t : Lists) (line : ℕ) (old new : Astray) : Type 0 where
  pub moved : AreMovedListed t line old new
  pub own : IsStayOwner (slot_at t line).owner → Contains new.lines line

-- the same, if it is known what may be astray
abbrev pub ListsExchanged : Lists → ℕ → Astray → Astray → Type 0
ListsExchanged t line old new = new.is_known ≡ true → AreExchangedListed t line old new

-- where the line has entered, no stay goes astray but those that are listed so
abbrev pub GoOnlyListed : Lists → ℕ → Lists → Type 0
GoOnlyListed t line u = (old new : Astray) → ListsExchanged t line old new → IsAstray t old → IsAstray u new
