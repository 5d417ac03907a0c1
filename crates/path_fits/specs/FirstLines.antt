-- The first lines of a level, before and after an exchange.
use Rattle.std.specs.Prelude.{◌≡◌, ℕ, ◌<◌, nat_eq, List, length, filter, get_or, Option}
use Rattle.problem_core.specs.declared.parts.Mark.{Mark}
use Rattle.problem_core.specs.Layout.{Problem}
use Rattle.problem_core.specs.Levels.{IsLevelAt}
use Rattle.problem_core.specs.declared.parts.Level.{Level}
use Rattle.problem_core.specs.declared.stops.Quantity.TheVariants.{Rows}
use Rattle.path_lines.specs.declared.exchange.Pivot.{Pivot}
use Rattle.path_lines.specs.declared.table.Inside.{Inside}
use Rattle.path_lines.specs.Tables.{IsLineAt, line_count, name_at}
use Rattle.path_levels.specs.declared.tableau.CornerLines.{CornerLines}
use Rattle.path_levels.specs.declared.outline.LineFacts.{LineFacts}
use Rattle.path_levels.specs.Outlines.{number_at}
use Rattle.path_levels.specs.Rows.{AreKeptOf}
use Rattle.path_fits.specs.declared.last.Fit.{Fit}
use Rattle.path_fits.specs.declared.last.Last.{Last}
use Rattle.path_fits.specs.declared.last.rows_after.FirstLines.{FirstLines}
use Rattle.path_fits.specs.After.{AfterExchange}
use Rattle.path_fits.specs.Fits.{IsFitAt}
use Rattle.path_fits.specs.Sums.{IsUnfitLineAt}

-- how many of the lines have the level at this place
abbrev pub size_in : ℕ → List LineFacts → ℕ
size_in place facts = length (filter (λ f. nat_eq f.level place) facts)

-- the line at k is before the end, and has the level
pub record IsFirstAt (facts : List LineFacts) (firsts : FirstLines) (k : ℕ) : Type 0 where
  pub before : k < firsts.end
  pub own : (d : LineFacts) → (get_or facts k d).level ≡ firsts.place

-- the inside mark of one of the lines does not fit
pub record HasUnfitFirst (p : Problem) (at : List Mark) (facts : List LineFacts) (firsts : FirstLines)
    : Type 0 where
  pub k : ℕ
  pub within : k < line_count p
  pub first : IsFirstAt facts firsts k
  pub unfit : IsUnfitLineAt p at (name_at p k)

-- ---- after an exchange

-- after the exchange these lines are `next`
abbrev pub AreFirstAfter : Last → Pivot → FirstLines → List (Option Inside) → Type 0
AreFirstAfter last pivot firsts next = (k : ℕ) (d : Option Inside) → k < length last.tableau.corner.lines.now
    → IsFirstAt last.tableau.corner.outline.now.lines.items firsts k → (p : Problem)
    → AfterExchange p pivot last.tableau.corner.lines.now
    (λ at. IsLineAt p at (name_at p k) (get_or next k d))

-- after the exchange the inside mark of one of these lines does not fit
abbrev pub LeadsToUnfitFirst : Last → Pivot → FirstLines → Type 0
LeadsToUnfitFirst last pivot firsts = (p : Problem) → AfterExchange p pivot last.tableau.corner.lines.now
    (λ at. HasUnfitFirst p at last.tableau.corner.outline.now.lines.items firsts)

-- whether the sum of so many first rows of the level at the place fits, at each corner at which their lines
-- are kept
abbrev pub IsRowsFit : CornerLines → (place first : ℕ) → Fit → Type 0
IsRowsFit corner place first fit = (p : Problem) (at : List Mark) (level : Level)
    → AreKeptOf p at corner.outline.now place first corner.lines.now
    → IsLevelAt p level (number_at corner.outline.now.levels.items place)
    → IsFitAt p at (Rows level first) fit
