-- Fronts: the first reduced cost of an outside mark that isn't 0.
use Rattle.std.specs.Prelude.{◌≡◌, ◌≢◌, ℕ, ◌+◌, ◌*◌, ◌/◌, ◌<◌, List, [], ◌∷◌, ◌++◌, length, map, ℤ, pos}
use Rattle.std.specs.Prelude.{◌*ℤ◌, ◌≤ℤ◌, ◌<ℤ◌, All, Contains}
use Rattle.std.specs.Int.{IsGcd}
use Rattle.problem_core.specs.declared.limits.TheConstants.{FIRST_STAY_LEVEL}
use Rattle.problem_core.specs.declared.parts.Side.{Side}
use Rattle.problem_core.specs.declared.parts.RowName.{RowName}
use Rattle.problem_core.specs.declared.parts.RowName.TheVariants.{Stay as StayOf}
use Rattle.problem_core.specs.declared.parts.Stay.{Stay}
use Rattle.problem_core.specs.declared.parts.Mark.{Mark}
use Rattle.problem_core.specs.Layout.{IsProblem, Line, Problem, lines}
use Rattle.problem_core.specs.Kept.{IsWhole}
use Rattle.problem_core.specs.Certificates.{IsLexNonnegative, Multipliers}
use Rattle.problem_core.specs.Corners.{AreMultipliersAt, HasNegativeColumn, NoNegativeColumn, Swap, column}
use Rattle.problem_core.specs.Corners.{exchanged, marks_of, place}
use Rattle.problem_core.specs.Rays.{HasRays}
use Rattle.corner_laws.specs.Units.{IsLevelUnit}
use Rattle.corner_lines.specs.LineEquations.{IsOutsideLine}
use Rattle.corner_lines.specs.Levels.LevelRows.{HasLevelRow, IsEnteringNumber, IsLevelExchange}
use Rattle.corner_lines.specs.Levels.LevelRows.{reduced_number}
use Rattle.corner_lines.specs.Levels.LevelJoins.{IsJoiningNumber, IsLevelJoin}
use Rattle.corner_lines.specs.Levels.LevelCosts.{IsSound}
use Rattle.corner_lines.specs.Levels.StayLevels.{turned}

-- ---- the rows of all levels

-- each level's unit, and its row: the level's own number, and the numbers of the outside lines
pub record Rows : Type 0 where
  pub unit : ℕ → ℕ
  pub own : ℕ → ℕ
  pub number : ℕ → RowName → ℤ

-- each level has this unit, and a row with these numbers
abbrev pub AreLevelRows : Problem → List Mark → Rows → Type 0
AreLevelRows p at rows = (level : ℕ) → IsLevelUnit p level (rows.unit level)
    × HasLevelRow p at level (rows.unit level) (rows.own level) (rows.number level)

-- the reduced costs of an outside line's mark, level by level
abbrev pub costs_of : Rows → Side → Line → ℕ → ℤ
costs_of rows side l level =
    reduced_number side level (rows.unit level) (rows.own level) (rows.number level l.name) l

-- if the line is not of the level, its mark's reduced cost is its number there, with the other sign for an
-- under mark
abbrev pub ReducedElsewhere : Type 0
ReducedElsewhere = (side : Side) (level unit own : ℕ) (y : ℤ) (l : Line) → l.level ≢ level
    → reduced_number side level unit own y l ≡ turned side y

-- ---- fronts

-- the first of the numbers that isn't 0 is this one, at this level
pub record IsFront (costs : ℕ → ℤ) (level : ℕ) (front : ℤ) : Type 0 where
  pub before : (k : ℕ) → k < level → costs k ≡ pos 0
  pub there : costs level ≡ front
  pub some : front ≢ pos 0

-- the front of an outside mark
abbrev pub IsFrontIn : Problem → Rows → Mark → ℕ → ℤ → Type 0
IsFrontIn p rows mark level front =
    All (λ l. l.name ≡ mark.row → IsFront (costs_of rows mark.side l) level front) (lines p)

-- the outside mark's reduced cost is 0 at each level
abbrev pub HasNoFrontIn : Problem → Rows → Mark → Type 0
HasNoFrontIn p rows mark =
    All (λ l. l.name ≡ mark.row → (level : ℕ) → costs_of rows mark.side l level ≡ pos 0) (lines p)

-- an outside mark with a front below 0 has a negative column
abbrev pub NegativeFrontIsNegative : Type 0
NegativeFrontIsNegative = (p : Problem) (at : List Mark) (rows : Rows) (mark : Mark) (level : ℕ) (front : ℤ)
    → IsProblem p → AreLevelRows p at rows → Contains (map place (marks_of (lines p))) (place mark)
    → IsOutsideLine at mark.row → IsFrontIn p rows mark level front → front <ℤ pos 0
    → HasNegativeColumn p at mark

-- a column with a front above 0 is not negative, whatever the corner's multipliers are
abbrev pub PositiveFrontIsNot : Type 0
PositiveFrontIsNot = (p : Problem) (at : List Mark) (rows : Rows) (mark : Mark) (level : ℕ) (front : ℤ)
    (m : Multipliers) → IsWhole p → HasRays p at → AreLevelRows p at rows → IsOutsideLine at mark.row
    → IsFrontIn p rows mark level front → pos 0 <ℤ front → AreMultipliersAt p at m
    → All (λ l. l.name ≡ mark.row → IsLexNonnegative (column m mark.side l)) (lines p)

-- a column without a front isn't negative either
abbrev pub NoFrontIsNot : Type 0
NoFrontIsNot = (p : Problem) (at : List Mark) (rows : Rows) (mark : Mark) (m : Multipliers)
    → IsWhole p → HasRays p at → AreLevelRows p at rows → IsOutsideLine at mark.row → HasNoFrontIn p rows mark
    → AreMultipliersAt p at m
    → All (λ l. l.name ≡ mark.row → IsLexNonnegative (column m mark.side l)) (lines p)

-- if no outside mark has a front below 0, no column is negative
abbrev pub NoNegativeFronts : Type 0
NoNegativeFronts = (p : Problem) (at : List Mark) (rows : Rows) → IsProblem p → AreLevelRows p at rows
    → ((side : Side) → All (λ l. IsOutsideLine at l.name → (level : ℕ) (front : ℤ)
    → IsFront (costs_of rows side l) level front → pos 0 ≤ℤ front) (lines p))
    → NoNegativeColumn p at

-- ---- columns that keep their signs

-- the second number is a positive multiple of the first
pub record AreAlike (a b : ℤ) : Type 0 where
  pub left : ℕ
  pub right : ℕ
  pub left_positive : 0 < left
  pub right_positive : 0 < right
  pub same : pos left *ℤ b ≡ pos right *ℤ a

-- costs that are not negative, strongest level first, stay so if each becomes a positive multiple of itself
abbrev pub AlikeCostsKeepSign : Type 0
AlikeCostsKeepSign = (costs next : ℕ → ℤ) → ((level : ℕ) → AreAlike (costs level) (next level))
    → IsLexNonnegative costs → IsLexNonnegative next

-- and their front stays at its level, and becomes a positive multiple of itself
abbrev pub AlikeFrontsAreFronts : Type 0
AlikeFrontsAreFronts = (costs next : ℕ → ℤ) (level : ℕ) (front : ℤ)
    → ((level : ℕ) → AreAlike (costs level) (next level)) → IsFront costs level front
    → IsFront next level (next level) × AreAlike front (next level)

-- after an exchange, the costs of lines that are not in the pivot
abbrev pub ExchangedCostsAreAlike : Type 0
ExchangedCostsAreAlike = (p : Problem) (at : List Mark) (s : Swap) (level unit own size low : ℕ)
    (number pivot next : RowName → ℤ) (n : ℤ) → IsLevelExchange p at s level unit own number size pivot
    → IsLevelUnit p level unit → IsOutsideLine at s.enter.row
    → IsEnteringNumber p s.enter level unit own number n → HasRays p (exchanged s at)
    → HasLevelRow p (exchanged s at) level unit low next
    → All (λ l. IsOutsideLine at l.name → l.name ≢ s.enter.row → pivot l.name ≡ pos 0 → (side : Side)
    → AreAlike (reduced_number side level unit own (number l.name) l)
    (reduced_number side level unit low (next l.name) l))
    (lines p)

-- after a join, the costs of lines that are not in the joining line's equation
abbrev pub JoinedCostsAreAlike : Type 0
JoinedCostsAreAlike = (p q : Problem) (at : List Mark) (level unit own size low : ℕ)
    (number line next : RowName → ℤ) (name : RowName) (inside : Side) (n : ℤ) → IsSound q → HasRays q at
    → IsLevelUnit q level unit → IsLevelJoin p q at level unit own number name inside size line
    → IsJoiningNumber q name inside level unit own n → HasLevelRow q at level unit low next
    → All (λ l. IsOutsideLine at l.name → line l.name ≡ pos 0 → (side : Side)
    → AreAlike (reduced_number side level unit own (number l.name) l)
    (reduced_number side level unit low (next l.name) l))
    (lines q)

-- after a level's unit has grown
abbrev pub GrownCostsAreAlike : Type 0
GrownCostsAreAlike = (p : Problem) (level unit own factor divisor : ℕ) (y : ℤ) → IsProblem p
    → IsLevelUnit p level unit → 0 < factor → 0 < own → IsGcd factor own divisor
    → All (λ l. (side : Side) → AreAlike (reduced_number side level unit own y l)
    (reduced_number side level (factor * unit) (own / divisor) (pos (factor / divisor) *ℤ y) l)) (lines p)

-- ---- a new attribute, and moved stays

-- the line without its constant
abbrev pub constantless : Line → Line
constantless l = record {
  name = l.name;
  level = l.level;
  weight = l.weight;
  rel = l.rel;
  scale = l.scale;
  num = pos 0;
  den = 1;
  form = l.form;
}

-- if only constants have changed, units and rows of levels are as before
abbrev pub MovedLevelsStay : Type 0
MovedLevelsStay = (p q : Problem) (at : List Mark) (level unit own : ℕ) (number : RowName → ℤ)
    → map constantless (lines p) ≡ map constantless (lines q) → IsLevelUnit p level unit
    → HasLevelRow p at level unit own number
    → IsLevelUnit q level unit × HasLevelRow q at level unit own number

-- a stay more, whose attribute is new
abbrev pub with_stay : Problem → Stay → Problem
with_stay p s = record { rows = p.rows; stays = p.stays ++ (s ∷ []) }

-- the level of that stay
abbrev pub next_level : Problem → ℕ
next_level p = FIRST_STAY_LEVEL + length p.stays

-- at other levels units and rows are as before
abbrev pub NewStayLeavesLevels : Type 0
NewStayLeavesLevels = (p : Problem) (s : Stay) (at : List Mark) (level unit own : ℕ) (number : RowName → ℤ)
    → All (λ l. l.name ≢ StayOf s.attr) (lines p) → IsOutsideLine at (StayOf s.attr) → level ≢ next_level p
    → number (StayOf s.attr) ≡ pos 0 → IsLevelUnit p level unit → HasLevelRow p at level unit own number
    → IsLevelUnit (with_stay p s) level unit × HasLevelRow (with_stay p s) at level unit own number
