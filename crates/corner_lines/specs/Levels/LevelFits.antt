-- When a level's cost fits, by its row.
use Rattle.std.specs.Prelude.{◌≡◌, ℕ, ◌*◌, ◌<◌, List, ℤ, pos, unsigned_abs, All}
use Rattle.frac_core.specs.Fraction.{Fraction, Fits, IsFitting, IsLowest}
use Rattle.problem_core.specs.declared.parts.Side.{Side}
use Rattle.problem_core.specs.declared.parts.RowName.{RowName}
use Rattle.problem_core.specs.declared.parts.Mark.{Mark}
use Rattle.problem_core.specs.Layout.{Problem, lines}
use Rattle.problem_core.specs.Corners.{IsCorner, IsExchange, IsIn, Swap, place, place_of}
use Rattle.problem_core.specs.Levels.{HasNoLevelWriting, IsCostAt}
use Rattle.problem_core.specs.Rays.{HasRays}
use Rattle.corner_laws.specs.LevelLaws.{small_number, small_scale}
use Rattle.corner_laws.specs.Units.{IsLevelUnit}
use Rattle.corner_lines.specs.LineEquations.{IsOutsideLine}
use Rattle.corner_lines.specs.Levels.LevelRows.{HasLevelRow, IsLevelMultiple, IsUnfitRow, inside_number}
use Rattle.corner_lines.specs.Levels.LevelRows.{IsEnteringNumber, IsTurningNumber, reduced_number}
use Rattle.corner_lines.specs.Levels.LevelCosts.{IsSound}

-- ---- the numbers that have to fit

-- the scale, the outside lines' numbers, and both reduced costs of each line of the level
pub record IsFittingRow (p : Problem) (at : List Mark) (level unit own : ℕ) (number : RowName → ℤ) : Type 0
  where
    pub scale_fits : IsFitting (pos (own * unit))
    pub outside_fit : All (λ l. IsOutsideLine at l.name → IsFitting (number l.name)) (lines p)
    pub own_fit : All (λ l. l.level ≡ level → IsOutsideLine at l.name → (side : Side)
        → IsFitting (reduced_number side level unit own (number l.name) l)) (lines p)
    pub inside_fit : All (λ l. l.level ≡ level → (side inside : Side) → IsIn (place_of l.name inside) at
        → IsFitting (reduced_number side level unit own (inside_number inside level unit own l) l)) (lines p)

-- the facts about a level at a corner
pub record IsLevelThere (p : Problem) (at : List Mark) (level unit own : ℕ) (number : RowName → ℤ)
    (cost : Fraction) : Type 0 where
  pub sound : IsSound p
  pub corner : IsCorner p at
  pub rays : HasRays p at
  pub unit_is : IsLevelUnit p level unit
  pub row : HasLevelRow p at level unit own number
  pub cost_is : IsCostAt p at level cost
  pub lowest : IsLowest cost

-- if a level's row and its cost fit, it has a writing that fits
abbrev pub FittingRowHasWriting : Type 0
FittingRowHasWriting = (p : Problem) (at : List Mark) (level unit own : ℕ) (number : RowName → ℤ)
    (cost : Fraction) → IsLevelThere p at level unit own number cost
    → IsFittingRow p at level unit own number → Fits cost → HasNoLevelWriting p at level → ⊥

-- if they do not both fit, it has none
abbrev pub UnfitRowHasNoWriting : Type 0
UnfitRowHasNoWriting = (p : Problem) (at : List Mark) (level unit own : ℕ) (number : RowName → ℤ)
    (cost : Fraction) → IsLevelThere p at level unit own number cost
    → (IsFittingRow p at level unit own number → Fits cost → ⊥) → HasNoLevelWriting p at level

-- if no lowest terms of a level's row fit, it has none
abbrev pub UnfitMultipleHasNoWriting : Type 0
UnfitMultipleHasNoWriting = (p : Problem) (at : List Mark) (level unit own : ℕ) (by number : RowName → ℤ)
    → IsSound p → HasRays p at → IsLevelUnit p level unit → IsLevelMultiple p at level unit own by
    → All (λ l. IsOutsideLine at l.name → by l.name ≡ number l.name) (lines p)
    → IsUnfitRow p at own number → HasNoLevelWriting p at level

-- ---- numbers that fit without a look at each line

-- a level's row fits if its scale and the outside lines' numbers are small
abbrev pub SmallRowFits : Type 0
SmallRowFits = (p : Problem) (at : List Mark) (level unit own : ℕ) (number : RowName → ℤ) → IsSound p
    → own * unit < small_scale
    → All (λ l. IsOutsideLine at l.name → unsigned_abs (number l.name) < small_number) (lines p)
    → IsFittingRow p at level unit own number

-- ---- the numbers that an exchange takes

-- the entering line's number fits if the level's row does
abbrev pub EnteringNumberFits : Type 0
EnteringNumberFits = (p : Problem) (at : List Mark) (s : Swap) (level unit own : ℕ) (number : RowName → ℤ)
    (n : ℤ) → IsExchange p at s → IsFittingRow p at level unit own number → IsOutsideLine at s.enter.row
    → IsEnteringNumber p s.enter level unit own number n → IsFitting n

-- so does the number of a turn
abbrev pub TurningNumberFits : Type 0
TurningNumberFits = (p : Problem) (at : List Mark) (s : Swap) (level unit own : ℕ) (number : RowName → ℤ)
    (n : ℤ) → IsExchange p at s → IsFittingRow p at level unit own number → s.enter.row ≡ s.leave.row
    → IsTurningNumber p s level unit own n → IsFitting n

-- so does the leaving line's count; `extra` is this times a number that fits
abbrev pub LeavingNumberFits : Type 0
LeavingNumberFits = (p : Problem) (at : List Mark) (s : Swap) (level unit own : ℕ) (number : RowName → ℤ)
    → IsIn (place s.leave) at → IsFittingRow p at level unit own number
    → All (λ l. l.name ≡ s.leave.row → IsFitting (inside_number s.leave.side level unit own l)) (lines p)
