-- The cost of a level after an exchange, a turn or a join.
use Rattle.std.specs.Prelude.{◌≡◌, ◌≢◌, ℕ, ◌*◌, ◌<◌, ◌≤◌, List, [], ◌∷◌, map, ℤ, pos, ◌*ℤ◌, All, Any}
use Rattle.frac_core.specs.Fraction.{Fraction, Fits, IsLowest, IsRatio, sum_den, sum_num}
use Rattle.problem_core.specs.declared.limits.TheConstants.{WEIGHT_LIMIT}
use Rattle.problem_core.specs.declared.parts.Side.{Side}
use Rattle.problem_core.specs.declared.parts.RowName.{RowName}
use Rattle.problem_core.specs.declared.parts.Mark.{Mark}
use Rattle.problem_core.specs.Layout.{IsProblem, Problem, Row, lines}
use Rattle.problem_core.specs.Corners.{IsCorner, Point, SameMarks, StandsAt, Swap, exchanged, one_column}
use Rattle.problem_core.specs.Kept.{IsWhole}
use Rattle.problem_core.specs.Levels.{HasNoLevelWriting, IsCostAt}
use Rattle.problem_core.specs.Rays.{HasRays}
use Rattle.problem_core.specs.Unfit.{with_first_rows}
use Rattle.corner_laws.specs.Lifts.{AreJoined, with_rows}
use Rattle.corner_laws.specs.Units.{IsLevelUnit}
use Rattle.corner_lines.specs.LineEquations.{IsOutsideLine, deviation}
use Rattle.corner_lines.specs.Levels.LevelRows.{HasLevelRow, IsEnteringNumber, IsLevelExchange}
use Rattle.corner_lines.specs.Levels.LevelRows.{IsTurningNumber}
use Rattle.corner_lines.specs.Levels.LevelJoins.{IsJoiningNumber, IsLeavingCount, IsLevelJoin, IsLevelLeave}
use Rattle.corner_lines.specs.Levels.LevelJoins.{level_count}

-- ---- a problem with rows that may have no weight yet

-- no name comes twice
abbrev pub AreDifferent : List RowName → Type 0
AreDifferent [] = Unit {0}
AreDifferent (n ∷ ns) = All (λ m. n ≢ m) ns × AreDifferent ns

-- no scale and no denominator is 0, the lines' names differ, and no weight is above the limit
pub record IsSound (p : Problem) : Type 0 where
  pub problem : IsProblem p
  pub names : AreDifferent (map (λ l. l.name) (lines p))
  pub weights : All (λ l. l.weight ≤ WEIGHT_LIMIT) (lines p)

-- a whole problem is sound
abbrev pub WholeIsSound : Type 0
WholeIsSound = (p : Problem) → IsWhole p → IsSound p

-- the first rows of a level, at the corner of all of them
abbrev pub FirstRowsAreSound : Type 0
FirstRowsAreSound = (p : Problem) (at : List Mark) (level j : ℕ) → IsWhole p → IsCorner p at → HasRays p at
    → IsSound (with_first_rows level j p) × IsCorner (with_first_rows level j p) at
    × HasRays (with_first_rows level j p) at

-- ---- the cost

-- the line's deviation at the corner is this fraction
abbrev pub HasDeviation : Problem → List Mark → RowName → Fraction → Type 0
HasDeviation p at name value = (x : Point) × StandsAt p at x
    × (deviation name x.num *ℤ pos value.den ≡ value.num *ℤ x.num one_column)

-- the next cost is this one plus n over `whole` times the value
pub record IsCostStep (cost : Fraction) (n : ℤ) (whole : ℕ) (value next : Fraction) : Type 0 where
  pub cost_den : 0 < cost.den
  pub value_den : 0 < value.den
  pub ratio : IsRatio next (sum_num cost n (pos whole) value) (sum_den cost (pos whole) value)

-- an exchange adds the entering line's deviation times n over `own * unit`
abbrev pub ExchangedCostIsCost : Type 0
ExchangedCostIsCost = (p : Problem) (at : List Mark) (s : Swap) (level unit own size : ℕ)
    (number pivot : RowName → ℤ) (n : ℤ) (cost value next : Fraction)
    → IsLevelExchange p at s level unit own number size pivot → IsLevelUnit p level unit
    → IsOutsideLine at s.enter.row → IsEnteringNumber p s.enter level unit own number n
    → IsCostAt p at level cost → HasDeviation p (exchanged s at) s.enter.row value
    → IsCostStep cost n (own * unit) value next → IsCostAt p (exchanged s at) level next

-- so does a turn
abbrev pub TurnedCostIsCost : Type 0
TurnedCostIsCost = (p : Problem) (at : List Mark) (s : Swap) (level unit own size : ℕ)
    (number line : RowName → ℤ) (n : ℤ) (cost value next : Fraction)
    → IsLevelExchange p at s level unit own number size line → IsLevelUnit p level unit
    → s.enter.row ≡ s.leave.row → IsTurningNumber p s level unit own n
    → IsCostAt p at level cost → HasDeviation p (exchanged s at) s.enter.row value
    → IsCostStep cost n (own * unit) value next → IsCostAt p (exchanged s at) level next

-- a join adds the joining line's deviation times its count over the unit
abbrev pub JoinedCostIsCost : Type 0
JoinedCostIsCost = (p q : Problem) (at : List Mark) (level unit own : ℕ) (number : RowName → ℤ)
    (name : RowName) (side : Side) (size : ℕ) (line : RowName → ℤ) (n : ℤ) (cost value next : Fraction)
    → IsSound q → IsCorner p at → IsLevelJoin p q at level unit own number name side size line
    → Any (λ l. l.name ≡ name) (lines q) → IsLevelUnit q level unit
    → IsJoiningNumber q name side level unit 1 n → IsCostAt p at level cost → HasDeviation q at name value
    → IsCostStep cost n unit value next
    → IsCostAt q at level next

-- a line that leaves takes as much away
abbrev pub LeftCostIsCost : Type 0
LeftCostIsCost = (p q : Problem) (at : List Mark) (level unit own : ℕ) (number : RowName → ℤ)
    (name : RowName) (side : Side) (size : ℕ) (line : RowName → ℤ) (n : ℤ) (cost value next : Fraction)
    → IsSound p → IsCorner p at → IsLevelLeave p q at level unit own number name side size line
    → Any (λ l. l.name ≡ name) (lines p) → IsLevelUnit p level unit
    → IsLeavingCount p name side level unit 1 n → IsCostAt p at level cost → HasDeviation p at name value
    → IsCostStep cost n unit value next → IsCostAt q at level next

-- rows that have joined the corner but not their level add nothing
abbrev pub JoiningRowsCostNothing : Type 0
JoiningRowsCostNothing = (p : Problem) (rest : List Row) (at joined : List Mark) (level : ℕ) (cost : Fraction)
    → IsWhole (with_rows rest p) → IsCorner p at → IsCorner (with_rows rest p) joined → AreJoined p at joined
    → IsCostAt p at level cost
    → IsCostAt (with_first_rows level (level_count level p.rows) (with_rows rest p)) joined level cost

-- ---- costs that do not fit

-- the sum does not fit in lowest terms
abbrev pub IsUnfitStep : Fraction → ℤ → ℕ → Fraction → Type 0
IsUnfitStep cost n whole value = (next : Fraction) → IsLowest next
    → IsRatio next (sum_num cost n (pos whole) value) (sum_den cost (pos whole) value) → Fits next → ⊥

-- if the sum after an exchange doesn't fit, the level has no writing that fits
abbrev pub UnfitExchangedCost : Type 0
UnfitExchangedCost = (p : Problem) (at : List Mark) (s : Swap) (level unit own size : ℕ)
    (number pivot : RowName → ℤ) (n : ℤ) (cost value : Fraction)
    → IsLevelExchange p at s level unit own number size pivot → IsLevelUnit p level unit
    → IsOutsideLine at s.enter.row → IsEnteringNumber p s.enter level unit own number n
    → IsCostAt p at level cost → HasDeviation p (exchanged s at) s.enter.row value
    → IsUnfitStep cost n (own * unit) value → HasNoLevelWriting p (exchanged s at) level

-- if the sum after a turn doesn't fit, it has none either
abbrev pub UnfitTurnedCost : Type 0
UnfitTurnedCost = (p : Problem) (at : List Mark) (s : Swap) (level unit own size : ℕ)
    (number line : RowName → ℤ) (n : ℤ) (cost value : Fraction)
    → IsLevelExchange p at s level unit own number size line → IsLevelUnit p level unit
    → s.enter.row ≡ s.leave.row → IsTurningNumber p s level unit own n
    → IsCostAt p at level cost → HasDeviation p (exchanged s at) s.enter.row value
    → IsUnfitStep cost n (own * unit) value → HasNoLevelWriting p (exchanged s at) level

-- if the sum after a join doesn't fit, it has none either
abbrev pub UnfitJoinedCost : Type 0
UnfitJoinedCost = (p q : Problem) (at : List Mark) (level unit own : ℕ) (number : RowName → ℤ)
    (name : RowName) (side : Side) (size : ℕ) (line : RowName → ℤ) (n : ℤ) (cost value : Fraction)
    → IsSound q → IsCorner p at → IsCorner q at → IsLevelJoin p q at level unit own number name side size line
    → Any (λ l. l.name ≡ name) (lines q) → IsLevelUnit q level unit
    → IsJoiningNumber q name side level unit 1 n → IsCostAt p at level cost → HasDeviation q at name value
    → IsUnfitStep cost n unit value
    → HasNoLevelWriting q at level

-- ---- the order of a corner's marks

-- a level's row and cost don't depend on it
abbrev pub OrderIsFree : Type 0
OrderIsFree = (p : Problem) (a b : List Mark) (level unit own : ℕ) (number : RowName → ℤ) → SameMarks a b
    → (HasLevelRow p a level unit own number → HasLevelRow p b level unit own number)
    × ((cost : Fraction) → IsCostAt p a level cost → IsCostAt p b level cost)
    × (HasNoLevelWriting p a level → HasNoLevelWriting p b level)
