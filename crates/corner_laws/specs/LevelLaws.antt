-- What holds of the writings of levels' costs.
use Rattle.std.specs.Prelude.{◌≡◌, ◌<◌, ◌*◌, ◌/◌, nat_eq, ℕ, List, length, ℤ, pos, ◌*ℤ◌, ◌≤◌, All}
use Rattle.std.specs.Prelude.{unsigned_abs}
use Rattle.frac_core.specs.declared.frac.TheConstants.{PART_BOUND}
use Rattle.problem_core.specs.declared.limits.TheConstants.{COEFFICIENT_LIMIT}
use Rattle.problem_core.specs.Layout.{IsProblem, Problem, Row, lines, Line, rank_level}
use Rattle.problem_core.specs.Kept.{IsWhole}
use Rattle.problem_core.specs.Certificates.{Multipliers}
use Rattle.problem_core.specs.Corners.{AreMultipliersAt, IsCorner, IsIn, place_of}
use Rattle.problem_core.specs.declared.parts.Mark.{Mark}
use Rattle.problem_core.specs.declared.parts.Side.{Side}
use Rattle.problem_core.specs.declared.parts.RowName.TheVariants.{Stay as StayOf}
use Rattle.std.specs.Int.{◌∣◌}
use Rattle.problem_core.specs.Levels.{HasNoLevelWriting, IsLevelAt, IsLevelWriting, AreFitting}
use Rattle.problem_core.specs.declared.parts.Level.{Level}
use Rattle.std.specs.List.{filter}
use Rattle.problem_core.specs.declared.parts.RowName.{RowName}
use Rattle.problem_core.specs.declared.parts.Side.TheVariants.{Under, Over}
use Rattle.problem_core.specs.Unfit.{IsUnfitRows}
use Rattle.corner_laws.specs.Lifts.{AreJoined, HasOneIn, with_rows}
use Rattle.corner_laws.specs.Equations.{AreLowestNumbers, IsLevelSum, IsUnfitSum}
use Rattle.problem_core.specs.Rays.{HasRays}
use Rattle.corner_laws.specs.Sums.{IsRowOf}
use Rattle.corner_laws.specs.Units.{AreFittingThere, IsCommonShare, IsLevelRow, IsLevelUnit, IsReducedBy}
use Rattle.corner_laws.specs.Units.{IsStayLevel}

-- the multipliers of a corner are unique at each level, up to the scale
abbrev pub MultipliersAreUnique : Type 0
MultipliersAreUnique = (p : Problem) (at : List Mark) (m n : Multipliers) (k : ℕ) → IsWhole p → HasRays p at
    → AreMultipliersAt p at m → AreMultipliersAt p at n
    → All (λ l. pos (m.scale k) *ℤ n.times k l.name ≡ pos (n.scale k) *ℤ m.times k l.name) (lines p)

-- the numbers of a level's writing are unique at a corner: its scale, each multiplier and each reduced cost
abbrev pub NumbersAreEqual : Type 0
NumbersAreEqual = (p : Problem) (at : List Mark) (k s t : ℕ) (y z : RowName → ℤ) (r q : ℕ → ℤ) → IsWhole p
    → HasRays p at → IsLevelWriting p at k s y r → IsLevelWriting p at k t z q
    → (s ≡ t) × All (λ l. (y l.name ≡ z l.name)
    × ((r (place_of l.name Under) ≡ q (place_of l.name Under))
    × (r (place_of l.name Over) ≡ q (place_of l.name Over)))) (lines p)

-- the lowest terms of a level's numbers are its writing
abbrev pub WritingFromLevel : Type 0
WritingFromLevel = (p : Problem) (at : List Mark) (level scale : ℕ) (times : RowName → ℤ) (reduced : ℕ → ℤ)
    (low : ℕ) (part : RowName → ℤ) (rest : ℕ → ℤ) → IsLevelSum p at level scale times reduced
    → AreLowestNumbers p scale times reduced low part rest → IsLevelWriting p at level low part rest

-- where the lowest terms of a level's numbers or its cost do not fit, it has no writing that fits
abbrev pub UnfitFromLevel : Type 0
UnfitFromLevel = (p : Problem) (at : List Mark) (level scale : ℕ) (times : RowName → ℤ) (reduced : ℕ → ℤ)
    → IsProblem p → HasRays p at → IsLevelSum p at level scale times reduced
    → IsUnfitSum p at level scale times reduced → HasNoLevelWriting p at level

-- a level's cost that does not fit before later rows join is that of its first j rows where they have joined,
-- and does not fit there
abbrev pub RowsLift : Type 0
RowsLift = (p : Problem) (rest : List Row) (at joined : List Mark) (level : Level) (k j : ℕ)
    → IsProblem (with_rows rest p) → IsLevelAt (with_rows rest p) level k → 1 ≤ j
    → j ≡ length (filter (λ r. nat_eq (rank_level r.rank) k) p.rows) → AreJoined p at joined
    → All (HasOneIn joined) rest → HasNoLevelWriting p at k → IsUnfitRows (with_rows rest p) joined level j

-- a level's row in lowest terms gives the level's writing in joint lowest terms: its scale is the row's own
-- number times the level's unit
abbrev pub LevelNumbers : Type 0
LevelNumbers = (p : Problem) (at : List Mark) (level unit own : ℕ) (by : RowName → ℤ) (reduced : ℕ → ℤ)
    → IsLevelUnit p level unit → IsLevelRow p at level unit own by → IsReducedBy p level unit own by reduced
    → IsLevelWriting p at level (own * unit) by reduced

-- the least common multiple of the scales of a level's lines, each over its common divisor with the weight,
-- is the level's unit
abbrev pub CommonShareIsUnit : Type 0
CommonShareIsUnit = (p : Problem) (level unit : ℕ) (divisor : Line → ℕ) → IsProblem p
    → IsCommonShare p level unit divisor → IsLevelUnit p level unit

-- a stay that is inside needs no row for its level: its own is the level's, in units of 1
abbrev pub StayLevelRow : Type 0
StayLevelRow = (p : Problem) (at : List Mark) (level attr own : ℕ) (side : Side) (row : RowName → ℤ)
    (entry : ℕ → ℤ) → IsWhole p → IsCorner p at → IsStayLevel p level attr
    → IsIn (place_of (StayOf attr) side) at → IsRowOf p at (place_of (StayOf attr) side) row entry
    → entry (place_of (StayOf attr) side) ≡ pos own → 0 < own
    → ((k : ℕ) → k ∣ own → All (λ l. (IsIn (place_of l.name Under) at → ⊥)
    → (IsIn (place_of l.name Over) at → ⊥) → k ∣ unsigned_abs (row l.name)) (lines p) → k ≡ 1)
    → IsLevelUnit p level 1 × IsLevelRow p at level 1 own row

-- all numbers of a level's writing fit where its scale, the outside lines' multipliers and the reduced costs
-- of the level's own lines do
abbrev pub LevelFits : Type 0
LevelFits = (p : Problem) (at : List Mark) (level unit own : ℕ) (by : RowName → ℤ) (reduced : ℕ → ℤ)
    → IsLevelRow p at level unit own by → IsReducedBy p level unit own by reduced
    → AreFittingThere p at level (own * unit) by reduced → AreFitting p (own * unit) by reduced

-- a scale below it, and multipliers below half the bound of what fits, leave room for each reduced cost
abbrev pub small_scale : ℕ
small_scale = COEFFICIENT_LIMIT

-- the bound of such multipliers
abbrev pub small_number : ℕ
small_number = PART_BOUND / 2

-- they fit where its scale and the outside lines' multipliers are small
abbrev pub SmallLevelFits : Type 0
SmallLevelFits = (p : Problem) (at : List Mark) (level unit own : ℕ) (by : RowName → ℤ) (reduced : ℕ → ℤ)
    → IsWhole p → IsLevelRow p at level unit own by → IsReducedBy p level unit own by reduced
    → own * unit < small_scale → All (λ l. (IsIn (place_of l.name Under) at → ⊥)
    → (IsIn (place_of l.name Over) at → ⊥) → unsigned_abs (by l.name) < small_number) (lines p)
    → AreFitting p (own * unit) by reduced

-- at a corner each level has multipliers
abbrev pub MultipliersExist : Type 0
MultipliersExist = (p : Problem) (at : List Mark) → IsWhole p → IsCorner p at → HasRays p at
    → (m : Multipliers) × AreMultipliersAt p at m

-- each level's cost has a writing: so where it has none that fits, that is not for want of one
abbrev pub LevelWritingExists : Type 0
LevelWritingExists = (p : Problem) (at : List Mark) (level : ℕ) → IsWhole p → IsCorner p at → HasRays p at
    → (scale : ℕ) × (times : RowName → ℤ) × (reduced : ℕ → ℤ) × IsLevelWriting p at level scale times reduced
