-- Slots of nothing.
use Rattle.std.proofs.Common.{◌≡◌, ◌≢◌, ℕ, ◌≤◌, ap, pos}
use Rattle.row_core.specs.Rows.{coefficient}
use Rattle.problem_core.specs.declared.parts.RowName.{RowName}
use Rattle.corner_view.specs.declared.types.Owner.TheVariants.{Level as LevelSlot, Line as LineSlot}
use Rattle.corner_table.specs.declared.table.TheConstants.{LEVELS}
use Rattle.corner_table.specs.Invariants.{name_of}
use Rattle.corner_table.specs.Kept.{AreSlots, AreStored}
use Rattle.corner_table.specs.Tables.{Lists, entry, problem_of, slot_at}
use Rattle.corner_view.specs.Seen.{IsNamed}
use Rattle.std.proofs.Common.{subst, sym}
use Rattle.corner_table.proofs.Basics.OwnerFacts.{line-owned, line-like}

-- a slot past the levels' with a number in its row is of something
pub not_free : (t : Lists) (w c : ℕ) → AreStored t → LEVELS ≤ w → entry t w c ≢ pos 0 → (slot_at t w).owner ≡ LevelSlot → ⊥
not_free t w c stored high some free = some (ap (λ r. coefficient c r) (stored.empty w high free))

pub free_line : (name : RowName) → LineSlot name ≡ LevelSlot → ⊥
free_line name e = subst line-like e tt

-- a line's slot is of a line of the problem
pub line_named : (t : Lists) (w : ℕ) (name : RowName) → AreSlots t → (slot_at t w).owner ≡ LineSlot name → IsNamed (problem_of t) (name_of (slot_at t w).owner)
line_named t w name slots e = subst (λ o. IsNamed (problem_of t) (name_of o)) (sym e) (line-owned t w name slots e).0
