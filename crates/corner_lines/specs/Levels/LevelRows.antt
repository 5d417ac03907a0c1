-- A level's row of whole numbers over the outside lines: before it is divided, after an exchange or a turn.
use Rattle.std.specs.Prelude.{◌≡◌, ◌≢◌, ℕ, ◌*◌, ◌<◌, cond, nat_eq, List, ℤ, pos, ◌+ℤ◌, ◌-ℤ◌, ◌*ℤ◌, neg_ℤ}
use Rattle.std.specs.Prelude.{unsigned_abs, All}
use Rattle.std.specs.Int.{◌∣◌}
use Rattle.frac_core.specs.Fraction.{IsFitting}
use Rattle.problem_core.specs.declared.parts.Side.{Side}
use Rattle.problem_core.specs.declared.parts.Side.TheVariants.{Under, Over}
use Rattle.problem_core.specs.declared.parts.RowName.{RowName}
use Rattle.problem_core.specs.declared.parts.Mark.{Mark}
use Rattle.problem_core.specs.Layout.{Line, Problem, coefficient, lines, sum_of}
use Rattle.problem_core.specs.Kept.{IsWhole}
use Rattle.problem_core.specs.Corners.{IsCorner, IsExchange, IsIn, Swap, exchanged, place, place_of}
use Rattle.corner_laws.specs.Units.{IsLevelRow, over_share, under_share}
use Rattle.corner_lines.specs.LineEquations.{IsLineEquation, IsOutsideLine, deviation}

-- ---- before it is divided

-- a level's row whose numbers may have a common factor: the lines cancel, and each inside line is there with
-- its count times `own`
pub record IsLevelMultiple (p : Problem) (at : List Mark) (level unit own : ℕ) (by : RowName → ℤ) : Type 0
  where
    pub own_positive : 0 < own
    pub cancel : (v : ℕ) → sum_of (λ l. by l.name *ℤ coefficient v l.form) (lines p) ≡ pos 0
    pub under : All (λ l. IsIn (place_of l.name Under) at → by l.name ≡ pos (own * under_share unit level l))
        (lines p)
    pub over : All (λ l. IsIn (place_of l.name Over) at
        → by l.name ≡ neg_ℤ (pos (own * over_share unit level l))) (lines p)

-- `low` and the numbers of the outside lines are `own` and its numbers in lowest terms
pub record IsDividedRow (p : Problem) (at : List Mark) (own : ℕ) (by : RowName → ℤ) (low : ℕ)
    (number : RowName → ℤ) : Type 0 where
  pub factor : ℕ
  pub above : 0 < factor
  pub own_is : factor * low ≡ own
  pub same : All (λ l. IsOutsideLine at l.name → pos factor *ℤ number l.name ≡ by l.name) (lines p)
  pub lowest : (k : ℕ) → k ∣ low
      → All (λ l. IsOutsideLine at l.name → k ∣ unsigned_abs (number l.name)) (lines p) → k ≡ 1

-- the level has a row in which the outside lines have these numbers
pub record HasLevelRow (p : Problem) (at : List Mark) (level unit own : ℕ) (number : RowName → ℤ) : Type 0
  where
    pub by : RowName → ℤ
    pub row : IsLevelRow p at level unit own by
    pub outside : All (λ l. IsOutsideLine at l.name → by l.name ≡ number l.name) (lines p)

-- a level's row divided to lowest terms is its row
abbrev pub DividedRowIsRow : Type 0
DividedRowIsRow = (p : Problem) (at : List Mark) (level unit own low : ℕ) (by number : RowName → ℤ)
    → IsLevelMultiple p at level unit own by → IsDividedRow p at own by low number
    → HasLevelRow p at level unit low number

-- no lowest terms of the row and of `own` fit
abbrev pub IsUnfitRow : Problem → List Mark → ℕ → (RowName → ℤ) → Type 0
IsUnfitRow p at own by = (low : ℕ) (number : RowName → ℤ) → IsDividedRow p at own by low number
    → IsFitting (pos low) → All (λ l. IsOutsideLine at l.name → IsFitting (number l.name)) (lines p) → ⊥

-- ---- a line's equation

-- the lines cancel when each is taken times its number in `pivot`. The line `enter` has -size, and of all
-- lines with a mark inside only `leave` has a number: the equation of the leaving line solved for the
-- entering one, or, if both are one line, its own equation
pub record IsPivot (p : Problem) (at : List Mark) (enter leave : RowName) (size : ℕ)
    (pivot : RowName → ℤ) : Type 0 where
  pub size_positive : 0 < size
  pub cancel : (v : ℕ) → sum_of (λ l. pivot l.name *ℤ coefficient v l.form) (lines p) ≡ pos 0
  pub enter_is : pivot enter ≡ neg_ℤ (pos size)
  pub inside_zero : (side : Side) → All (λ l. IsIn (place_of l.name side) at → l.name ≢ leave
      → pivot l.name ≡ pos 0) (lines p)

-- the number of a line in the level's row if its mark of this side is inside
abbrev pub inside_number : Side → (level unit own : ℕ) → Line → ℤ
inside_number Under level unit own l = pos (own * under_share unit level l)
inside_number Over level unit own l = neg_ℤ (pos (own * over_share unit level l))

-- k and m have the ratio of size and n
pub record AreFactors (size : ℕ) (n : ℤ) (k : ℕ) (m : ℤ) : Type 0 where
  pub above : 0 < k
  pub same : m *ℤ pos size ≡ n *ℤ pos k

-- k times the row plus m times the pivot
abbrev pub sum_by : ℕ → (RowName → ℤ) → ℤ → (RowName → ℤ) → RowName → ℤ
sum_by k by m pivot name = pos k *ℤ by name +ℤ m *ℤ pivot name

-- ---- an exchange

-- the entering line's number in the level's row, less its count after the exchange: the reduced cost of the
-- entering mark, with the other sign if this is an under mark
abbrev pub IsEnteringNumber : Problem → Mark → (level unit own : ℕ) → (RowName → ℤ) → ℤ → Type 0
IsEnteringNumber p enter level unit own number n =
    All (λ l. l.name ≡ enter.row → n ≡ number l.name -ℤ inside_number enter.side level unit own l) (lines p)

-- k times the leaving line's count
abbrev pub IsLeavingNumber : Problem → Mark → (level unit own k : ℕ) → ℤ → Type 0
IsLeavingNumber p leave level unit own k extra =
    All (λ l. l.name ≡ leave.row → extra ≡ pos k *ℤ inside_number leave.side level unit own l) (lines p)

-- k times the outside lines' numbers plus m times the pivot, and `extra` more at the leaving line
abbrev pub exchanged_sum : ℕ → (RowName → ℤ) → ℤ → (RowName → ℤ) → RowName → ℤ → RowName → ℤ
exchanged_sum k number m pivot leave extra name =
    cond (nat_eq (place_of name Under) (place_of leave Under)) (extra +ℤ m *ℤ pivot name)
    (sum_by k number m pivot name)

-- the beginning of an exchange: the level's row, and the leaving line's equation solved for the entering line
pub record IsLevelExchange (p : Problem) (at : List Mark) (s : Swap) (level unit own : ℕ)
    (number : RowName → ℤ) (size : ℕ) (pivot : RowName → ℤ) : Type 0 where
  pub whole : IsWhole p
  pub corner : IsCorner p at
  pub exchange : IsExchange p at s
  pub row : HasLevelRow p at level unit own number
  pub pivot_is : IsPivot p at s.enter.row s.leave.row size pivot

-- the numbers after it, before they are divided
abbrev pub ExchangedRowIsMultiple : Type 0
ExchangedRowIsMultiple = (p : Problem) (at : List Mark) (s : Swap) (level unit own size k : ℕ)
    (number pivot : RowName → ℤ) (n m extra : ℤ) → IsLevelExchange p at s level unit own number size pivot
    → IsOutsideLine at s.enter.row → IsEnteringNumber p s.enter level unit own number n
    → IsLeavingNumber p s.leave level unit own k extra → AreFactors size n k m
    → (by : RowName → ℤ) × IsLevelMultiple p (exchanged s at) level unit (k * own) by
    × All (λ l. IsOutsideLine (exchanged s at) l.name
    → by l.name ≡ exchanged_sum k number m pivot s.leave.row extra l.name) (lines p)

-- divided to lowest terms they are the level's row
abbrev pub ExchangedRowIsRow : Type 0
ExchangedRowIsRow = (p : Problem) (at : List Mark) (s : Swap) (level unit own size k low : ℕ)
    (number pivot next : RowName → ℤ) (n m extra : ℤ)
    → IsLevelExchange p at s level unit own number size pivot → IsOutsideLine at s.enter.row
    → IsEnteringNumber p s.enter level unit own number n → IsLeavingNumber p s.leave level unit own k extra
    → AreFactors size n k m
    → IsDividedRow p (exchanged s at) (k * own) (exchanged_sum k number m pivot s.leave.row extra) low next
    → HasLevelRow p (exchanged s at) level unit low next

-- ---- a turn

-- the line's count before, less its count after
abbrev pub IsTurningNumber : Problem → Swap → (level unit own : ℕ) → ℤ → Type 0
IsTurningNumber p s level unit own n =
    All (λ l. l.name ≡ s.leave.row → n ≡ inside_number s.leave.side level unit own l
    -ℤ inside_number s.enter.side level unit own l) (lines p)

-- the numbers after it, before they are divided
abbrev pub TurnedRowIsMultiple : Type 0
TurnedRowIsMultiple = (p : Problem) (at : List Mark) (s : Swap) (level unit own size k : ℕ)
    (number line : RowName → ℤ) (n m : ℤ) → IsLevelExchange p at s level unit own number size line
    → s.enter.row ≡ s.leave.row → IsTurningNumber p s level unit own n → AreFactors size n k m
    → (by : RowName → ℤ) × IsLevelMultiple p (exchanged s at) level unit (k * own) by
    × All (λ l. IsOutsideLine (exchanged s at) l.name → by l.name ≡ sum_by k number m line l.name) (lines p)

-- divided to lowest terms they are the level's row
abbrev pub TurnedRowIsRow : Type 0
TurnedRowIsRow = (p : Problem) (at : List Mark) (s : Swap) (level unit own size k low : ℕ)
    (number line next : RowName → ℤ) (n m : ℤ) → IsLevelExchange p at s level unit own number size line
    → s.enter.row ≡ s.leave.row → IsTurningNumber p s level unit own n → AreFactors size n k m
    → IsDividedRow p (exchanged s at) (k * own) (sum_by k number m line) low next
    → HasLevelRow p (exchanged s at) level unit low next

-- ---- reduced costs

-- the reduced cost of a line's mark of this side, if the line has the number y in the level's row
abbrev pub reduced_number : Side → (level unit own : ℕ) → ℤ → Line → ℤ
reduced_number Under level unit own y l = pos (own * under_share unit level l) -ℤ y
reduced_number Over level unit own y l = pos (own * over_share unit level l) +ℤ y

-- ---- a level that an exchange leaves alone

-- if the entering mark's reduced cost and the leaving line's count are 0, nothing changes
abbrev pub UntouchedRowStays : Type 0
UntouchedRowStays = (p : Problem) (at : List Mark) (s : Swap) (level unit own size : ℕ)
    (number pivot : RowName → ℤ) → IsLevelExchange p at s level unit own number size pivot
    → IsOutsideLine at s.enter.row → IsEnteringNumber p s.enter level unit own number (pos 0)
    → IsLeavingNumber p s.leave level unit own 1 (pos 0) → number s.leave.row ≡ pos 0
    → HasLevelRow p (exchanged s at) level unit own number

-- ---- equations of lines as pivots

-- the line's own number with the other sign, and the numbers of the others
abbrev pub line_numbers : RowName → ℕ → (RowName → ℤ) → RowName → ℤ
line_numbers line own by name =
    cond (nat_eq (place_of name Under) (place_of line Under)) (neg_ℤ (pos own)) (by name)

-- the equation of an inside line is the pivot of that line alone
abbrev pub EquationIsPivot : Type 0
EquationIsPivot = (p : Problem) (at : List Mark) (mark : Mark) (own : ℕ) (by : RowName → ℤ) (num : ℤ)
    (den : ℕ) → IsWhole p → IsCorner p at → IsIn (place mark) at
    → IsLineEquation p at (deviation mark.row) own by num den
    → IsPivot p at mark.row mark.row own (line_numbers mark.row own by)

-- multiplied by a number with which the entering line's number is below 0, it is solved for that line
abbrev pub PivotIsSolved : Type 0
PivotIsSolved = (p : Problem) (at : List Mark) (enter leave : RowName) (own size : ℕ) (line : RowName → ℤ)
    (t : ℤ) → IsPivot p at leave leave own line → 0 < size → t *ℤ line enter ≡ neg_ℤ (pos size)
    → IsPivot p at enter leave size (λ name. t *ℤ line name)
