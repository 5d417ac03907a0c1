-- Levels that an exchange touches by what its lines count there.
use Rattle.std.specs.Prelude.{◌≡◌, ◌⊎◌, ℕ, ◌<◌, List, pos, All, Any}
use Rattle.problem_core.specs.declared.parts.Side.{Side}
use Rattle.problem_core.specs.Layout.{lines}
use Rattle.corner_lines.specs.Levels.LevelRows.{inside_number}
use Rattle.corner_exchange.specs.declared.exchange.Change.{Change}
use Rattle.corner_table.specs.declared.table.TheConstants.{LEVELS}
use Rattle.corner_table.specs.Tables.{Lists, entry, line_slot, problem_of}

-- the line's mark of this side counts nothing at the level
abbrev pub CountsNothing : Lists → ℕ → Side → ℕ → Type 0
CountsNothing t w side level = (unit own : ℕ)
    → All (λ l. line_slot t l.name ≡ w → inside_number side level unit own l ≡ pos 0) (lines (problem_of t))

-- at each level where the line counts, the entering line stands
abbrev pub CountsWhereStands : Lists → ℕ → ℕ → Side → Type 0
CountsWhereStands t enter w side = (level : ℕ) → level < LEVELS → entry t level enter ≡ pos 0
    → CountsNothing t w side level

-- one of the changes is that of the slot
abbrev pub IsPut : List Change → ℕ → Type 0
IsPut changes w = Any (λ change. change.at ≡ w) changes

-- each level where the line counts has its change, unless the entering line stands there
abbrev pub AreLevelsPut : Lists → ℕ → ℕ → Side → List Change → Type 0
AreLevelsPut t enter w side changes = (level : ℕ) → level < LEVELS → entry t level enter ≡ pos 0
    → IsPut changes level ⊎ CountsNothing t w side level
