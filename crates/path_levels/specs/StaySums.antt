-- The row of a stay's level, from the kept stay.
use Rattle.std.specs.Prelude.{ℕ, pos, ◌*ℤ◌, Option, None, Some}
use Rattle.frac_core.specs.Fraction.{IsFitting, IsKept}
use Rattle.path_lines.specs.declared.table.Inside.{Inside}
use Rattle.path_levels.specs.declared.sums.LevelSum.{LevelSum}
use Rattle.path_levels.specs.Parts.{IsEmptySum, IsStaySum}

-- a row without numbers if the stay is outside, or else its equation, twice whose own number fits
abbrev pub IsStayRow : ℕ → Option Inside → LevelSum → Type 0
IsStayRow count None sum = IsEmptySum count sum
IsStayRow count (Some inside) sum = IsStaySum inside sum × IsFitting (pos 2 *ℤ inside.sum.own)
    × IsKept inside.sum.value

-- twice the own number of its equation does not fit
abbrev pub IsUnfitStay : Option Inside → Type 0
IsUnfitStay None = ⊥
IsUnfitStay (Some inside) = (IsFitting (pos 2 *ℤ inside.sum.own) → ⊥) × IsKept inside.sum.value
