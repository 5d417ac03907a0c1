-- The level of the required rows at a corner, by the kept row.
use Rattle.std.specs.Prelude.{◌≡◌, ℕ, ◌<◌, List, length, slice_index_or, Option, None, pos, ◌<ℤ◌}
use Rattle.problem_core.specs.declared.parts.Side.{Side}
use Rattle.path_lines.specs.declared.table.Inside.{Inside}
use Rattle.path_levels.specs.declared.outline.Outline.{Outline}
use Rattle.path_levels.specs.declared.outline.LineFacts.{LineFacts}
use Rattle.path_levels.specs.declared.sums.LevelSum.{LevelSum}
use Rattle.path_levels.specs.Costs.{cost_in}
use Rattle.path_levels.specs.Outlines.{number_at}

-- the strongest level is theirs
abbrev pub HasRequired : Outline → Type 0
HasRequired outline = (0 < length outline.levels.items) × (number_at outline.levels.items 0 ≡ 0)

-- the line at the place is outside, and one of its marks has a reduced cost below 0 at this level, the first
-- one
abbrev pub IsBelow : List (Option Inside) → LineFacts → LevelSum → ℕ → Type 0
IsBelow kept facts sum at = (slice_index_or kept at None ≡ None)
    × (side : Side) × (cost_in side facts at 0 sum <ℤ pos 0)
