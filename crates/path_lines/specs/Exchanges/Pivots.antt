-- The leaving line's equation, solved for the entering line.
use Rattle.std.specs.Prelude.{◌≡◌, ◌≢◌, ℕ, ◌<◌, Bool, false, not, List, length, get_or, Option, Some}
use Rattle.std.specs.Prelude.{pos, ◌*ℤ◌, ◌<ℤ◌, neg_ℤ, unsigned_abs}
use Rattle.frac_core.specs.Fraction.{Fraction, IsFitting, IsRatio, sum_den, sum_num}
use Rattle.problem_core.specs.declared.parts.RowName.{RowName}
use Rattle.problem_core.specs.declared.parts.Mark.{Mark}
use Rattle.problem_core.specs.declared.stops.What.{What}
use Rattle.problem_core.specs.Layout.{Problem}
use Rattle.problem_core.specs.Corners.{IsExchange, IsIn, exchanged, place}
use Rattle.problem_core.specs.Unfit.{IsUnfitWhat}
use Rattle.problem_core.specs.Window.{zero_fraction}
use Rattle.path_lines.specs.declared.exchange.Pivot.{Pivot}
use Rattle.path_lines.specs.declared.spots.Step.{Step}
use Rattle.path_lines.specs.declared.table.Sum.{Sum}
use Rattle.path_lines.specs.declared.table.Inside.{Inside}
use Rattle.path_lines.specs.Numbers.{AreFitting, IsReplaced, flip_sign, number_at}
use Rattle.path_lines.specs.Exchanges.Carried.{IsPivotOf}
use Rattle.path_lines.specs.Tables.{AreLines, IsLineAt, IsSumOf, IsThere, line_count, name_at}
use Rattle.path_lines.specs.Tables.{swap_of}

-- the leaving line's numbers with the sign of the entering line's, and its own in its place
pub record IsSolvedFrom (leaving : Sum) (step : Step) (pivot : Pivot) : Type 0 where
  pub step_is : pivot.step ≡ step
  pub no_turn : pivot.is_turn ≡ false
  pub above : pos 0 <ℤ pivot.size
  pub fits : AreFitting pivot.size pivot.by.items
  pub times_fit : IsFitting pivot.times
  pub is_below : Bool
  pub size_is : pivot.size ≡ flip_sign is_below *ℤ number_at leaving.by.items step.enter.at
  pub value_is : pivot.value ≡ leaving.value
  pub times_is : pivot.times ≡ neg_ℤ (flip_sign is_below *ℤ leaving.own)
  pub by_is : IsReplaced (flip_sign (not is_below)) leaving.by.items step.leave.at
      (flip_sign is_below *ℤ leaving.own) pivot.by.items

-- the value of the entering line's deviation after the exchange
abbrev pub IsEnteredBy : Pivot → Fraction → Type 0
IsEnteredBy pivot enters = (0 < enters.den) × IsRatio enters
    (sum_num zero_fraction pivot.times pivot.size pivot.value) (sum_den zero_fraction pivot.size pivot.value)

-- an exchange of two lines at the corner, with its pivot
pub record IsPivotAt (p : Problem) (at : List Mark) (pivot : Pivot) : Type 0 where
  pub there : IsThere p at
  pub enter_at : pivot.step.enter.at < line_count p
  pub leave_at : pivot.step.leave.at < line_count p
  pub apart : pivot.step.enter.at ≢ pivot.step.leave.at
  pub above : pos 0 <ℤ pivot.size
  pub value_den : 0 < pivot.value.den
  pub exchange : IsExchange p at (swap_of p pivot.step)
  pub solved : (enters : Fraction) → IsEnteredBy pivot enters
      → IsPivotOf p at (swap_of p pivot.step) (unsigned_abs pivot.size) pivot.by.items enters

-- the equation of the leaving line gives it
abbrev pub SolvedIsPivot : Type 0
SolvedIsPivot = (p : Problem) (at : List Mark) (step : Step) (leaving : Sum) (pivot : Pivot) → IsThere p at
    → step.enter.at < line_count p → step.leave.at < line_count p → step.enter.at ≢ step.leave.at
    → IsExchange p at (swap_of p step) → IsSumOf p at (name_at p step.leave.at) leaving
    → IsSolvedFrom leaving step pivot → IsPivotAt p at pivot

-- the marks inside after it
abbrev pub next_marks : Problem → Pivot → List Mark → List Mark
next_marks p pivot at = exchanged (swap_of p pivot.step) at

-- a quantity of the corner does not fit
abbrev pub HasUnfit : Problem → List Mark → Type 0
HasUnfit p at = (what : What) × IsUnfitWhat p at what

-- a line's sum at the next corner, whenever the other is its sum before
abbrev pub IsNextSum : Pivot → Fraction → Sum → Sum → Type 0
IsNextSum pivot enters sum next = (p : Problem) (at : List Mark) (name : RowName) → IsPivotAt p at pivot
    → IsEnteredBy pivot enters → IsSumOf p at name sum → IsSumOf p (next_marks p pivot at) name next

-- something does not fit there, whenever this was the sum of a line whose mark is inside there
abbrev pub IsUnfitNextSum : Pivot → Fraction → Sum → Type 0
IsUnfitNextSum pivot enters sum = (p : Problem) (at : List Mark) (mark : Mark) → IsPivotAt p at pivot
    → IsEnteredBy pivot enters → IsSumOf p at mark.row sum → IsIn (place mark) (next_marks p pivot at)
    → HasUnfit p (next_marks p pivot at)

-- the entering line's sum there
abbrev pub IsEnteringSum : Pivot → Fraction → Sum → Type 0
IsEnteringSum pivot enters sum = (p : Problem) (at : List Mark) → IsPivotAt p at pivot
    → IsEnteredBy pivot enters → IsSumOf p (next_marks p pivot at) (name_at p pivot.step.enter.at) sum

-- something does not fit there
abbrev pub LeadsToUnfit : Pivot → Fraction → Type 0
LeadsToUnfit pivot enters = (p : Problem) (at : List Mark) → IsPivotAt p at pivot
    → IsEnteredBy pivot enters → HasUnfit p (next_marks p pivot at)

-- `next` is kept of the line at the next corner, whenever `old` is at this one
abbrev pub IsNextLine : Pivot → Fraction → ℕ → Option Inside → Option Inside → Type 0
IsNextLine pivot enters k old next = (p : Problem) (at : List Mark) → IsPivotAt p at pivot
    → IsEnteredBy pivot enters → k < line_count p → IsLineAt p at (name_at p k) old
    → IsLineAt p (next_marks p pivot at) (name_at p k) next

-- something does not fit at the next corner, whenever `old` is kept of the line at this one
abbrev pub IsUnfitNext : Pivot → Fraction → ℕ → Option Inside → Type 0
IsUnfitNext pivot enters k old = (p : Problem) (at : List Mark) → IsPivotAt p at pivot
    → IsEnteredBy pivot enters → k < line_count p → IsLineAt p at (name_at p k) old
    → HasUnfit p (next_marks p pivot at)

-- the lines are those of the next corner
abbrev pub AreNextLines : Pivot → Fraction → List (Option Inside) → List (Option Inside) → Type 0
AreNextLines pivot enters kept next = (p : Problem) (at : List Mark) → IsPivotAt p at pivot
    → IsEnteredBy pivot enters → AreLines p at kept → AreLines p (next_marks p pivot at) next

-- something does not fit at the next corner, wherever these lines are kept
abbrev pub AreUnfitNext : Pivot → Fraction → List (Option Inside) → Type 0
AreUnfitNext pivot enters kept = (p : Problem) (at : List Mark) → IsPivotAt p at pivot
    → IsEnteredBy pivot enters → AreLines p at kept → HasUnfit p (next_marks p pivot at)

-- the lines after an exchange, at each corner with these lines; the marks after it are a corner again
abbrev pub LeadTo : Step → List (Option Inside) → List (Option Inside) → Type 0
LeadTo step kept next = (p : Problem) (at : List Mark) → IsThere p at → AreLines p at kept
    → IsExchange p at (swap_of p step)
    → IsThere p (exchanged (swap_of p step) at) × AreLines p (exchanged (swap_of p step) at) next

-- something does not fit there
abbrev pub LeadToUnfit : Step → List (Option Inside) → Type 0
LeadToUnfit step kept = (p : Problem) (at : List Mark) → IsThere p at → AreLines p at kept
    → IsExchange p at (swap_of p step) → HasUnfit p (exchanged (swap_of p step) at)

-- it is the sum of the leaving line, which differs from the entering one
abbrev pub IsLeavingBy : Step → List (Option Inside) → Sum → Type 0
IsLeavingBy step kept leaving = (inside : Inside) × (inside.sum ≡ leaving) × (step.enter.at ≢ step.leave.at)
    × (step.leave.at < length kept) × ((d : Option Inside) → get_or kept step.leave.at d ≡ Some inside)

-- it is solved from the leaving line's sum
pub record IsPivotBy (step : Step) (kept : List (Option Inside)) (pivot : Pivot) : Type 0 where
  pub leaving : Sum
  pub left : IsLeavingBy step kept leaving
  pub solved : IsSolvedFrom leaving step pivot
  pub count : length pivot.by.items ≡ length kept
