-- How a row joins the row of its level.
use Rattle.std.specs.Prelude.{◌≡◌, ◌≢◌, ◌⊎◌, ℕ, ◌+◌, ◌*◌, ◌/◌, ◌<◌, ◌≤◌, nat_eq, List, [], ◌∷◌, ◌++◌}
use Rattle.std.specs.Prelude.{length, ℤ, filter, pos, ◌*ℤ◌, neg_ℤ, All, Any}
use Rattle.std.specs.Int.{◌∣◌, IsGcd}
use Rattle.problem_core.specs.declared.parts.Side.{Side}
use Rattle.problem_core.specs.declared.parts.RowName.{RowName}
use Rattle.problem_core.specs.declared.parts.RowName.TheVariants.{Held}
use Rattle.problem_core.specs.declared.parts.Mark.{Mark}
use Rattle.problem_core.specs.Layout.{IsProblem, Line, Problem, Row, lines, rank_level}
use Rattle.problem_core.specs.Kept.{IsWhole}
use Rattle.problem_core.specs.Certificates.{weight_at}
use Rattle.problem_core.specs.Corners.{IsIn, place_of}
use Rattle.problem_core.specs.Unfit.{with_first_rows}
use Rattle.corner_laws.specs.Lifts.{AreJoined, HasOneIn, with_rows}
use Rattle.corner_laws.specs.Units.{IsLevelUnit}
use Rattle.corner_lines.specs.LineEquations.{IsOutsideLine}
use Rattle.corner_lines.specs.Levels.LevelRows.{AreFactors, HasLevelRow, IsDividedRow, IsLevelMultiple}
use Rattle.corner_lines.specs.Levels.LevelRows.{IsPivot}
use Rattle.corner_lines.specs.Levels.LevelRows.{inside_number, sum_by}

-- ---- a level without a line

-- a level at which no line has a weight has the unit 1 and a row of zeros
abbrev pub EmptyLevelHasRow : Type 0
EmptyLevelHasRow = (p : Problem) (at : List Mark) (level : ℕ) → All (λ l. weight_at l level ≡ 0) (lines p)
    → IsLevelUnit p level 1 × HasLevelRow p at level 1 1 (λ name. pos 0)

-- ---- the unit

-- if the unit has grown by a factor, so have the numbers, and `own` has not, except for their common divisor
abbrev pub GrownRowIsRow : Type 0
GrownRowIsRow = (p : Problem) (at : List Mark) (level unit own factor divisor : ℕ) (number : RowName → ℤ)
    → IsProblem p → IsLevelUnit p level unit → 0 < factor → IsGcd factor own divisor
    → HasLevelRow p at level unit own number
    → HasLevelRow p at level (factor * unit) (own / divisor) (λ name. pos (factor / divisor) *ℤ number name)

-- the least common multiple of two numbers
pub record IsLeastMultiple (a b multiple : ℕ) : Type 0 where
  pub above : 0 < multiple
  pub left : a ∣ multiple
  pub right : b ∣ multiple
  pub least : (n : ℕ) → a ∣ n → b ∣ n → multiple ∣ n

-- ---- a line that gets its weight

-- the line without its weight
abbrev pub weightless : Line → Line
weightless l = record {
  name = l.name;
  level = l.level;
  weight = 0;
  rel = l.rel;
  scale = l.scale;
  num = l.num;
  den = l.den;
  form = l.form;
}

-- l is as m, but without its weight if m has this name
abbrev pub IsLineBefore : RowName → Line → Line → Type 0
IsLineBefore name l m = ((l ≡ m) × (m.name ≢ name)) ⊎ ((l ≡ weightless m) × (m.name ≡ name))

-- each line of the first list is so as the line of the second at its place
abbrev pub AreLinesBefore : RowName → List Line → List Line → Type 0
AreLinesBefore name [] [] = Unit {0}
AreLinesBefore name [] (m ∷ ms) = ⊥
AreLinesBefore name (l ∷ ls) [] = ⊥
AreLinesBefore name (l ∷ ls) (m ∷ ms) = IsLineBefore name l m × AreLinesBefore name ls ms

-- with its weight the unit is the least common multiple of two numbers: the unit before, and the line's scale
-- over its common divisor with the weight
abbrev pub JoinedUnitIsUnit : Type 0
JoinedUnitIsUnit = (p q : Problem) (level unit divisor share next : ℕ) (name : RowName) → IsProblem q
    → AreLinesBefore name (lines p) (lines q) → Any (λ l. l.name ≡ name) (lines q) → IsLevelUnit p level unit
    → All (λ l. l.name ≡ name
    → (l.level ≡ level) × IsGcd l.scale l.weight divisor × (l.scale / divisor ≡ share)) (lines q)
    → IsLeastMultiple unit share next → IsLevelUnit q level next

-- the beginning of a join: the level's row without the line's weight, the line's inside mark, its equation
pub record IsLevelJoin (p q : Problem) (at : List Mark) (level unit own : ℕ) (number : RowName → ℤ)
    (name : RowName) (side : Side) (size : ℕ) (line : RowName → ℤ) : Type 0 where
  pub before : AreLinesBefore name (lines p) (lines q)
  pub row : HasLevelRow p at level unit own number
  pub inside : IsIn (place_of name side) at
  pub no_other : (other : Side) → IsIn (place_of name other) at → other ≡ side
  pub line_is : IsPivot q at name name size line

-- the line's count, with the other sign
abbrev pub IsJoiningNumber : Problem → RowName → Side → (level unit own : ℕ) → ℤ → Type 0
IsJoiningNumber q name side level unit own n =
    All (λ l. l.name ≡ name → n ≡ neg_ℤ (inside_number side level unit own l)) (lines q)

-- the level's numbers with the line's weight, before they are divided
abbrev pub JoinedRowIsMultiple : Type 0
JoinedRowIsMultiple = (p q : Problem) (at : List Mark) (level unit own : ℕ) (number : RowName → ℤ)
    (name : RowName) (side : Side) (size k : ℕ) (line : RowName → ℤ) (n m : ℤ)
    → IsLevelJoin p q at level unit own number name side size line
    → IsJoiningNumber q name side level unit own n → AreFactors size n k m
    → (by : RowName → ℤ) × IsLevelMultiple q at level unit (k * own) by
    × All (λ l. IsOutsideLine at l.name → by l.name ≡ sum_by k number m line l.name) (lines q)

-- divided to lowest terms they are the level's row
abbrev pub JoinedRowIsRow : Type 0
JoinedRowIsRow = (p q : Problem) (at : List Mark) (level unit own : ℕ) (number : RowName → ℤ)
    (name : RowName) (side : Side) (size k low : ℕ) (line next : RowName → ℤ) (n m : ℤ)
    → IsLevelJoin p q at level unit own number name side size line
    → IsJoiningNumber q name side level unit own n → AreFactors size n k m
    → IsDividedRow q at (k * own) (sum_by k number m line) low next → HasLevelRow q at level unit low next

-- a line that costs nothing on its inside side changes no number
abbrev pub FreeRowChangesNothing : Type 0
FreeRowChangesNothing = (p q : Problem) (at : List Mark) (level unit own : ℕ) (number : RowName → ℤ)
    (name : RowName) (side : Side) (size : ℕ) (line : RowName → ℤ)
    → IsLevelJoin p q at level unit own number name side size line
    → IsJoiningNumber q name side level unit own (pos 0) → HasLevelRow q at level unit own number

-- ---- the rows of a change

-- how many of the rows are of the level
abbrev pub level_count : ℕ → List Row → ℕ
level_count level rows = length (filter (λ r. nat_eq (rank_level r.rank) level) rows)

-- when all rows have joined the corner, and none its level yet, each level has its row from before
abbrev pub JoiningRowsAreFree : Type 0
JoiningRowsAreFree = (p : Problem) (rest : List Row) (at joined : List Mark) (level unit own : ℕ)
    (number : RowName → ℤ) → AreJoined p at joined → All (HasOneIn joined) rest
    → All (λ r. IsOutsideLine at (Held r.id)) rest → IsLevelUnit p level unit
    → HasLevelRow p at level unit own number
    → IsLevelUnit (with_first_rows level (level_count level p.rows) (with_rows rest p)) level unit
    × HasLevelRow (with_first_rows level (level_count level p.rows) (with_rows rest p)) joined level unit own
    number

-- one row more of the level gets its weight
abbrev pub OneRowMoreJoins : Type 0
OneRowMoreJoins = (p : Problem) (before : List Row) (r : Row) (after : List Row) (level : ℕ) → IsWhole p
    → p.rows ≡ before ++ (r ∷ after) → level ≡ rank_level r.rank
    → AreLinesBefore (Held r.id) (lines (with_first_rows level (level_count level before) p))
    (lines (with_first_rows level (level_count level before + 1) p))

-- at last all rows have their weight
abbrev pub AllRowsHaveJoined : Type 0
AllRowsHaveJoined = (p : Problem) (level j : ℕ) → level_count level p.rows ≤ j → with_first_rows level j p ≡ p

-- ---- a row leaves its level

-- the beginning of a departure: the level's row with the line's weight, the line's inside mark, its equation
pub record IsLevelLeave (p q : Problem) (at : List Mark) (level unit own : ℕ) (number : RowName → ℤ)
    (name : RowName) (side : Side) (size : ℕ) (line : RowName → ℤ) : Type 0 where
  pub before : AreLinesBefore name (lines q) (lines p)
  pub row : HasLevelRow p at level unit own number
  pub inside : IsIn (place_of name side) at
  pub no_other : (other : Side) → IsIn (place_of name other) at → other ≡ side
  pub line_is : IsPivot q at name name size line

-- the line's count
abbrev pub IsLeavingCount : Problem → RowName → Side → (level unit own : ℕ) → ℤ → Type 0
IsLeavingCount p name side level unit own n =
    All (λ l. l.name ≡ name → n ≡ inside_number side level unit own l) (lines p)

-- the level's numbers without the line's weight, before they are divided
abbrev pub LeftRowIsMultiple : Type 0
LeftRowIsMultiple = (p q : Problem) (at : List Mark) (level unit own : ℕ) (number : RowName → ℤ)
    (name : RowName) (side : Side) (size k : ℕ) (line : RowName → ℤ) (n m : ℤ)
    → IsLevelLeave p q at level unit own number name side size line
    → IsLeavingCount p name side level unit own n → AreFactors size n k m
    → (by : RowName → ℤ) × IsLevelMultiple q at level unit (k * own) by
    × All (λ l. IsOutsideLine at l.name → by l.name ≡ sum_by k number m line l.name) (lines q)

-- divided to lowest terms they are the level's row
abbrev pub LeftRowIsRow : Type 0
LeftRowIsRow = (p q : Problem) (at : List Mark) (level unit own : ℕ) (number : RowName → ℤ)
    (name : RowName) (side : Side) (size k low : ℕ) (line next : RowName → ℤ) (n m : ℤ)
    → IsLevelLeave p q at level unit own number name side size line
    → IsLeavingCount p name side level unit own n → AreFactors size n k m
    → IsDividedRow q at (k * own) (sum_by k number m line) low next → HasLevelRow q at level unit low next

-- if the unit has shrunk by a factor, `own` has grown by it
abbrev pub ShrunkRowIsRow : Type 0
ShrunkRowIsRow = (p : Problem) (at : List Mark) (level unit own factor low : ℕ) (number next : RowName → ℤ)
    → IsProblem p → IsLevelUnit p level unit → 0 < factor → HasLevelRow p at level (factor * unit) own number
    → IsDividedRow p at (own * factor) number low next → HasLevelRow p at level unit low next
