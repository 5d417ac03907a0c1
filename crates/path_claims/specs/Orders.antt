-- The order of sums where a route begins.
use Rattle.std.specs.Prelude.{◌≡◌, ◌⊎◌, ℕ, ◌+◌, ◌<◌, ◌≤◌, true, false, nat_eq, length, filter}
use Rattle.std.specs.Prelude.{Option, None, Some}
use Rattle.problem_core.specs.declared.parts.Level.{Level}
use Rattle.problem_core.specs.declared.parts.Mark.{Mark}
use Rattle.problem_core.specs.declared.stops.Quantity.{Quantity}
use Rattle.problem_core.specs.declared.stops.Quantity.TheVariants.{Plain, Terms, Rows, Shifts}
use Rattle.problem_core.specs.Layout.{Problem, Row, lines}
use Rattle.problem_core.specs.Levels.{IsLevelAt}
use Rattle.problem_core.specs.Unfit.{over_mark}
use Rattle.path_lines.specs.Room.{ComesBefore, IsSumOf}
use Rattle.path_lines.specs.Tables.{AreJudged}
use Rattle.path_claims.specs.declared.orders.SumAt.{SumAt}
use Rattle.path_fits.specs.declared.last.Fit.{Fit}
use Rattle.path_fits.specs.declared.last.Fit.TheVariants.{Fits, Unfit, NoRoom}

-- the sum's place in the order: a row's sum has the row's number, a level's sum the level's number
abbrev pub IsSumAt : Problem → Quantity → SumAt → Type 0
IsSumAt p (Plain what) place = ⊥
IsSumAt p (Terms mark j) place = (place.is_rows ≡ false) × (mark ≡ over_mark place.at) × (j ≡ place.first)
IsSumAt p (Rows level j) place = (place.is_rows ≡ true) × IsLevelAt p level place.at × (j ≡ place.first)
IsSumAt p (Shifts what j) place = ⊥

-- it is of an earlier row or level, or of the same one and sums fewer
abbrev pub IsLower : SumAt → SumAt → Type 0
IsLower a b = (a.at < b.at) ⊎ ((a.at ≡ b.at) × (a.first < b.first))

-- rows' sums before levels'
abbrev pub Precedes : SumAt → SumAt → Type 0
Precedes a b = ((a.is_rows ≡ false) × (b.is_rows ≡ true)) ⊎ ((a.is_rows ≡ b.is_rows) × IsLower a b)

-- the named quantity comes before the first sum that does not fit, is that sum, or comes after it, or is no
-- sum
abbrev pub IsFitBefore : Problem → (named unfit : Quantity) → Fit → Type 0
IsFitBefore p named unfit Fits = ComesBefore p named unfit
IsFitBefore p named unfit Unfit = named ≡ unfit
IsFitBefore p named unfit NoRoom = IsSumOf p named → ComesBefore p unfit named

-- so many rows are judged by their values: those before the given row, or all if none is given
abbrev pub IsJudgedTo : Problem → Option ℕ → ℕ → Type 0
IsJudgedTo p None judged = judged ≡ length p.rows
IsJudgedTo p (Some id) judged = (judged ≤ length p.rows) × AreJudged p id judged (length p.rows)

-- ---- sums of the problem's

-- the mark is the row's over mark, and so many first terms are a sum of the row's
abbrev pub IsFirstOf : Mark → ℕ → Row → Type 0
IsFirstOf mark first r = (mark ≡ over_mark r.id) × (1 ≤ first) × (first ≤ length r.terms + 1)

-- the level has at most so many lines
abbrev pub IsSizeOf : Problem → Level → ℕ → Type 0
IsSizeOf p level size = (k : ℕ) → IsLevelAt p level k
    → length (filter (λ l. nat_eq l.level k) (lines p)) ≤ size
