-- Small instances: the row `x >= 2` with its under mark inside, and a stay of x at 0.
use Rattle.std.specs.Prelude.{ℕ, cond, nat_eq, List, [], ◌∷◌, ℤ, pos, negsuc, ◌<ℤ◌}
use Rattle.frac_core.specs.declared.frac.TheConstants.{PART_BOUND}
use Rattle.frac_core.specs.Fraction.{Fraction}
use Rattle.problem_core.specs.declared.parts.Mark.{Mark}
use Rattle.problem_core.specs.declared.parts.Side.TheVariants.{Under}
use Rattle.problem_core.specs.declared.parts.RowName.{RowName}
use Rattle.problem_core.specs.declared.parts.RowName.TheVariants.{Held, Stay as StayOf}
use Rattle.corner_laws.specs.Examples.{over_stay, single, under_row}
use Rattle.corner_lines.specs.Levels.LevelRows.{IsUnfitRow}
use Rattle.corner_lines.specs.Levels.LevelCosts.{IsUnfitStep}
use Rattle.corner_lines.specs.Fronts.{AreLevelRows, IsFrontIn, Rows}

-- the under mark of the stay
abbrev pub under_stay : Mark
under_stay = record { row = StayOf 1; side = Under }

-- the corner with the row's under mark inside
abbrev pub below_two : List Mark
below_two = under_row ∷ []

-- the required level falls when x grows
abbrev pub stay_falls : RowName → ℤ
stay_falls (Held id) = pos 0
stay_falls (StayOf attr) = negsuc 0

-- there the required level has this row, and each other level a row of zeros, all in units of 1
abbrev pub single_rows : Rows
single_rows = record {
  unit = λ level. 1;
  own = λ level. 1;
  number = λ level name. cond (nat_eq level 0) (stay_falls name) (pos 0);
}

-- the stay's over mark has a front below 0, its under mark has none
abbrev pub SingleHasFront : Type 0
SingleHasFront = AreLevelRows (single 2) below_two single_rows
    × IsFrontIn (single 2) single_rows over_stay 0 (negsuc 0)
    × ((level : ℕ) (front : ℤ) → IsFrontIn (single 2) single_rows under_stay level front → front <ℤ pos 0 → ⊥)

-- a row with a number 1 does not fit if its own number does not, and fits if that is 1
abbrev pub SingleIsUnfit : Type 0
SingleIsUnfit = IsUnfitRow (single 2) below_two PART_BOUND stay_falls
    × (IsUnfitRow (single 2) below_two 1 stay_falls → ⊥)

-- n as a fraction
abbrev pub whole_number : ℤ → Fraction
whole_number n = record { num = n; den = 1 }

-- 0 plus the bound times 1 doesn't fit, and 0 plus 1 times 1 does
abbrev pub SumIsUnfit : Type 0
SumIsUnfit = IsUnfitStep (whole_number (pos 0)) (pos PART_BOUND) 1 (whole_number (pos 1))
    × (IsUnfitStep (whole_number (pos 0)) (pos 1) 1 (whole_number (pos 1)) → ⊥)
