-- What holds after an exchange at a corner whose lines are kept.
use Rattle.std.specs.Prelude.{◌≡◌, ℕ, ◌<◌, List, length, Option}
use Rattle.problem_core.specs.declared.parts.Mark.{Mark}
use Rattle.problem_core.specs.Layout.{Problem}
use Rattle.problem_core.specs.Corners.{IsExchange, exchanged}
use Rattle.path_lines.specs.declared.exchange.Pivot.{Pivot}
use Rattle.path_lines.specs.declared.spots.Step.{Step}
use Rattle.path_lines.specs.declared.table.Inside.{Inside}
use Rattle.path_lines.specs.Exchanges.Pivots.{next_marks}
use Rattle.path_lines.specs.Tables.{AreLines, AreSized, IsLineAt, IsThere, line_count, name_at, swap_of}
use Rattle.path_levels.specs.Exchanges.Pivots.{IsExchangePivot, IsSizedPivot}
use Rattle.path_fits.specs.declared.last.PivotCase.{PivotCase}
use Rattle.path_fits.specs.declared.last.after.LineAt.{LineAt}
use Rattle.path_fits.specs.Fits.{AllAttrsFit}

-- each line of the problem is kept, and its sum and the pivot have a number for each line
pub record IsPivotCase (case : PivotCase) : Type 0 where
  pub count : length case.lines.now ≡ line_count case.p.now
  pub lines_are : AreSized case.lines.now
  pub pivot_is : IsSizedPivot (length case.lines.now) case.pivot.now

-- it holds at the corner after the exchange with this pivot, for each corner with these lines
abbrev pub AfterExchange : Problem → Pivot → List (Option Inside) → (List Mark → Type 0) → Type 0
AfterExchange p pivot lines holds = (at : List Mark) → IsExchangePivot p at pivot → AreLines p at lines
    → holds (next_marks p pivot at)

-- the same for the case's corner
abbrev pub AfterPivot : PivotCase → (List Mark → Type 0) → Type 0
AfterPivot case holds = AfterExchange case.p.now case.pivot.now case.lines.now holds

-- the same, for each such corner at which all attributes fit
abbrev pub AfterFittingAttrs : PivotCase → (List Mark → Type 0) → Type 0
AfterFittingAttrs case holds = (at : List Mark) → IsExchangePivot case.p.now at case.pivot.now
    → AreLines case.p.now at case.lines.now → AllAttrsFit case.p.now at
    → holds (next_marks case.p.now case.pivot.now at)

-- ---- for the line at a place, of so many

-- it holds at each corner at which this is kept of the line
abbrev pub WithLine : LineAt → (Problem → List Mark → Type 0) → Type 0
WithLine line holds = (p : Problem) (marks : List Mark) → IsThere p marks → line.count ≡ line_count p
    → line.at < line_count p → IsLineAt p marks (name_at p line.at) line.inside.now → holds p marks

-- it holds after the exchange with this pivot, for each such corner
abbrev pub AfterWithLine : Pivot → LineAt → (Problem → List Mark → Type 0) → Type 0
AfterWithLine pivot line holds = (p : Problem) (marks : List Mark) → IsExchangePivot p marks pivot
    → line.count ≡ line_count p → line.at < line_count p
    → IsLineAt p marks (name_at p line.at) line.inside.now → holds p (next_marks p pivot marks)

-- it holds after the exchange by these places, for each such corner
abbrev pub AfterStepWithLine : Step → (at : ℕ) → Option Inside → (Problem → List Mark → Type 0) → Type 0
AfterStepWithLine step at line holds = (p : Problem) (marks : List Mark) → IsThere p marks
    → IsExchange p marks (swap_of p step) → step.enter.at < line_count p → step.leave.at < line_count p
    → at < line_count p → IsLineAt p marks (name_at p at) line → holds p (exchanged (swap_of p step) marks)
