-- The level of a stay, at which it is alone: its equation is the level's row.
use Rattle.std.specs.Prelude.{◌≡◌, ℕ, ◌*◌, List, ℤ, pos, neg_ℤ, unsigned_abs, All}
use Rattle.std.specs.Int.{◌∣◌}
use Rattle.frac_core.specs.Fraction.{Fraction, Fits, IsFitting, IsLowest}
use Rattle.problem_core.specs.declared.parts.Side.{Side}
use Rattle.problem_core.specs.declared.parts.Side.TheVariants.{Under, Over}
use Rattle.problem_core.specs.declared.parts.RowName.{RowName}
use Rattle.problem_core.specs.declared.parts.RowName.TheVariants.{Stay as StayOf}
use Rattle.problem_core.specs.declared.parts.Level.TheVariants.{Stay as StayLevel}
use Rattle.problem_core.specs.declared.stops.What.TheVariants.{Level as LevelOf}
use Rattle.problem_core.specs.declared.parts.Mark.{Mark}
use Rattle.problem_core.specs.Layout.{Problem, lines}
use Rattle.problem_core.specs.Kept.{IsWhole}
use Rattle.problem_core.specs.Corners.{IsCorner, IsIn, place_of}
use Rattle.problem_core.specs.Levels.{HasNoLevelWriting, IsCostAt, IsLevelAt}
use Rattle.problem_core.specs.Rays.{HasRays}
use Rattle.problem_core.specs.Unfit.{IsUnfitWhat}
use Rattle.corner_laws.specs.Units.{IsLevelUnit, IsStayLevel}
use Rattle.corner_lines.specs.LineEquations.{IsOutsideLine}
use Rattle.corner_lines.specs.Levels.LevelRows.{HasLevelRow, IsPivot, reduced_number}
use Rattle.corner_lines.specs.Levels.LevelCosts.{HasDeviation}

-- with the other sign if the inside mark is an under mark
abbrev pub turned : Side → ℤ → ℤ
turned Under z = neg_ℤ z
turned Over z = z

-- a stay's level has no other line
abbrev pub StayStandsAlone : Type 0
StayStandsAlone = (p : Problem) (attr level : ℕ) → IsWhole p → IsLevelAt p (StayLevel attr) level
    → IsStayLevel p level attr

-- a stay with this mark inside, and its equation in lowest terms
pub record IsInsideStay (p : Problem) (at : List Mark) (level attr : ℕ) (side : Side) (own : ℕ)
    (line : RowName → ℤ) : Type 0 where
  pub whole : IsWhole p
  pub corner : IsCorner p at
  pub alone : IsStayLevel p level attr
  pub inside : IsIn (place_of (StayOf attr) side) at
  pub line_is : IsPivot p at (StayOf attr) (StayOf attr) own line
  pub lowest : (k : ℕ) → k ∣ own
      → All (λ l. IsOutsideLine at l.name → k ∣ unsigned_abs (line l.name)) (lines p) → k ≡ 1

-- its equation is the row of its level, in units of 1, turned for an under mark
abbrev pub InsideStayHasRow : Type 0
InsideStayHasRow = (p : Problem) (at : List Mark) (level attr : ℕ) (side : Side) (own : ℕ)
    (line : RowName → ℤ) → IsInsideStay p at level attr side own line
    → IsLevelUnit p level 1 × HasLevelRow p at level 1 own (λ name. turned side (line name))

-- the cost of its level is its deviation, with the other sign if its under mark is inside
abbrev pub InsideStayCosts : Type 0
InsideStayCosts = (p : Problem) (at : List Mark) (level attr : ℕ) (side : Side) (own : ℕ) (line : RowName → ℤ)
    (value : Fraction) → IsInsideStay p at level attr side own line → HasDeviation p at (StayOf attr) value
    → IsCostAt p at level (record { num = turned side value.num; den = value.den })

-- if its equation fits, and twice the stay's own number, its level fits
abbrev pub InsideStayFits : Type 0
InsideStayFits = (p : Problem) (at : List Mark) (level attr : ℕ) (side : Side) (own : ℕ) (line : RowName → ℤ)
    (value : Fraction) → IsInsideStay p at level attr side own line → HasRays p at
    → HasDeviation p at (StayOf attr) value → IsLowest value → Fits value
    → All (λ l. IsOutsideLine at l.name → IsFitting (line l.name)) (lines p)
    → IsFitting (pos (2 * own)) → HasNoLevelWriting p at level → ⊥

-- if twice that number does not, its level does not
abbrev pub InsideStayIsUnfit : Type 0
InsideStayIsUnfit = (p : Problem) (at : List Mark) (level attr : ℕ) (side : Side) (own : ℕ)
    (line : RowName → ℤ) (value : Fraction) → IsInsideStay p at level attr side own line → HasRays p at
    → HasDeviation p at (StayOf attr) value → IsLowest value
    → (IsFitting (pos (2 * own)) → ⊥) → HasNoLevelWriting p at level

-- the level of an outside stay has the unit 1 and a row of zeros
abbrev pub OutsideStayHasRow : Type 0
OutsideStayHasRow = (p : Problem) (at : List Mark) (level attr : ℕ) → IsStayLevel p level attr
    → IsOutsideLine at (StayOf attr) → IsLevelUnit p level 1 × HasLevelRow p at level 1 1 (λ name. pos 0)

-- that level has a writing that fits
abbrev pub OutsideStayFits : Type 0
OutsideStayFits = (p : Problem) (at : List Mark) (level attr : ℕ) → IsWhole p → IsCorner p at → HasRays p at
    → IsStayLevel p level attr → IsOutsideLine at (StayOf attr) → HasNoLevelWriting p at level → ⊥

-- at its level both marks of an outside stay cost 1
abbrev pub OutsideStayCostsOne : Type 0
OutsideStayCostsOne = (p : Problem) (level attr : ℕ) → IsStayLevel p level attr
    → All (λ l. l.name ≡ StayOf attr → (side : Side) → reduced_number side level 1 1 (pos 0) l ≡ pos 1)
    (lines p)

-- ---- the level of a stay as a quantity

-- the level of an inside stay is no quantity that doesn't fit, if its equation and twice its own number fit
abbrev pub StayLevelFits : Type 0
StayLevelFits = (p : Problem) (at : List Mark) (level attr : ℕ) (side : Side) (own : ℕ) (line : RowName → ℤ)
    (value : Fraction) → IsInsideStay p at level attr side own line → HasRays p at
    → HasDeviation p at (StayOf attr) value → IsLowest value → Fits value
    → All (λ l. IsOutsideLine at l.name → IsFitting (line l.name)) (lines p)
    → IsFitting (pos (2 * own)) → IsUnfitWhat p at (LevelOf (StayLevel attr)) → ⊥

-- if twice that number does not, it is one
abbrev pub StayLevelIsUnfit : Type 0
StayLevelIsUnfit = (p : Problem) (at : List Mark) (level attr : ℕ) (side : Side) (own : ℕ)
    (line : RowName → ℤ) (value : Fraction) → IsInsideStay p at level attr side own line → HasRays p at
    → HasDeviation p at (StayOf attr) value → IsLowest value → IsLevelAt p (StayLevel attr) level
    → (IsFitting (pos (2 * own)) → ⊥) → IsUnfitWhat p at (LevelOf (StayLevel attr))

-- the level of an outside stay never is
abbrev pub OutsideStayLevelFits : Type 0
OutsideStayLevelFits = (p : Problem) (at : List Mark) (attr : ℕ) → IsWhole p → IsCorner p at → HasRays p at
    → IsOutsideLine at (StayOf attr) → IsUnfitWhat p at (LevelOf (StayLevel attr)) → ⊥
