-- The names of rows and of levels: their words, and the order in which they come.
use Rattle.std.specs.Prelude.{◌≢◌, ℕ, ◌<◌, ◌≤◌, List, ◌∷◌, decimal}
use Rattle.span_text.specs.Bytes.{lower_s}
use Rattle.problem_core.specs.declared.parts.RowName.{RowName}
use Rattle.problem_core.specs.declared.parts.RowName.TheVariants.{Held, Stay as StayRow}
use Rattle.problem_core.specs.declared.parts.Level.{Level}
use Rattle.problem_core.specs.declared.parts.Level.TheVariants.{Priority, Stay as StayLevel}
use Rattle.problem_core.specs.Kept.{IsNumber}
use Rattle.problem_core.specs.declared.limits.TheConstants.{REQUIRED}

-- a row by its number, or the row of an attribute's stay behind an `s`
abbrev pub row_word : RowName → List ℕ
row_word (Held id) = decimal id
row_word (StayRow attr) = lower_s ∷ decimal attr

-- a priority, or the stay of an attribute behind an `s`
abbrev pub level_word : Level → List ℕ
level_word (Priority rank) = decimal rank
level_word (StayLevel attr) = lower_s ∷ decimal attr

-- the row may be named: its number, or that of its stay's attribute, is within the limits
abbrev pub IsRowName : RowName → Type 0
IsRowName (Held id) = IsNumber id
IsRowName (StayRow attr) = IsNumber attr

-- the level may be named: its rank is at most that of required rows, or the number of its stay's attribute is
-- within the limits
abbrev pub IsLevelName : Level → Type 0
IsLevelName (Priority rank) = rank ≤ REQUIRED
IsLevelName (StayLevel attr) = IsNumber attr

-- rows rise and come before the stays, which are different
abbrev pub IsRowBefore : RowName → RowName → Type 0
IsRowBefore (Held a) (Held b) = a < b
IsRowBefore (Held a) (StayRow b) = Unit {0}
IsRowBefore (StayRow a) (Held b) = ⊥
IsRowBefore (StayRow a) (StayRow b) = a ≢ b

-- priorities fall and come before the stays, which are different
abbrev pub IsLevelBefore : Level → Level → Type 0
IsLevelBefore (Priority a) (Priority b) = b < a
IsLevelBefore (Priority a) (StayLevel b) = Unit {0}
IsLevelBefore (StayLevel a) (Priority b) = ⊥
IsLevelBefore (StayLevel a) (StayLevel b) = a ≢ b
