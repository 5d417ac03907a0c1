-- Which lines are safe to turn.
use Rattle.std.specs.Prelude.{◌≡◌, ◌⊎◌, ℕ, List, [], Contains}
use Rattle.problem_core.specs.declared.parts.Side.{Side}
use Rattle.problem_core.specs.declared.parts.Side.TheVariants.{Under, Over}
use Rattle.corner_table.specs.Tables.{Lists, row_at}
use Rattle.corner_writings.specs.Growing.{IsRowDear}
use Rattle.corner.specs.declared.safe.Safe.{Safe}
use Rattle.corner.specs.declared.safe.Sides.{Sides}

-- the lines that are listed with this side
abbrev pub listed_at : Sides → Side → List ℕ
listed_at s Under = s.under
listed_at s Over = s.over

-- no line is, with either side
abbrev pub ListsNone : Sides → Type 0
ListsNone s = (s.under ≡ []) × (s.over ≡ [])

-- where a dear line's mark of this side is inside, it grows with marks of other lines alone that cost at the
-- required rows' level, whose slot is the first
abbrev pub AreSafe : Lists → Safe → Type 0
AreSafe t s = (side : Side) (w : ℕ) → Contains (listed_at s.dear side) w → IsRowDear t w side 0 (row_at t w)

-- no line is listed but this one with this side and those that were listed
abbrev pub IsNoted : ℕ → Side → Sides → Sides → Type 0
IsNoted line side old new = (d : Side) (w : ℕ) → Contains (listed_at new d) w
    → Contains (listed_at old d) w ⊎ ((d ≡ side) × (w ≡ line))
