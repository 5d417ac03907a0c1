-- What holds at a corner whose lines, or also its levels, are kept, and at the corner after an exchange.
use Rattle.std.specs.Prelude.{◌≡◌, List, get_or, Option}
use Rattle.problem_core.specs.declared.parts.Mark.{Mark}
use Rattle.problem_core.specs.Layout.{Problem}
use Rattle.problem_core.specs.Corners.{IsExchange, exchanged}
use Rattle.path_lines.specs.declared.spots.Step.{Step}
use Rattle.path_lines.specs.declared.table.Inside.{Inside}
use Rattle.path_lines.specs.Tables.{AreLines, IsThere, swap_of}
use Rattle.path_levels.specs.declared.outline.Outline.{Outline}
use Rattle.path_levels.specs.declared.sums.LevelRow.{LevelRow}
use Rattle.path_levels.specs.declared.sums.LevelSum.{LevelSum}
use Rattle.path_levels.specs.declared.tableau.CornerLines.{CornerLines}
use Rattle.path_levels.specs.declared.tableau.Tableau.{Tableau}
use Rattle.path_levels.specs.Levels.{AreLevels, IsSumAt}
use Rattle.path_levels.specs.Rows.{AreKept}

-- if the exchange can be made, it holds at the corner after it
abbrev pub AfterStep : Step → (Problem → List Mark → Type 0) → Problem → List Mark → Type 0
AfterStep step holds p at = IsExchange p at (swap_of p step) → holds p (exchanged (swap_of p step) at)

-- it holds at each corner with these lines
abbrev pub WithLines : List (Option Inside) → (Problem → List Mark → Type 0) → Type 0
WithLines lines holds = (p : Problem) (at : List Mark) → IsThere p at → AreLines p at lines → holds p at

-- the same for each problem with this outline
abbrev pub WithOutline : CornerLines → (Problem → List Mark → Type 0) → Type 0
WithOutline corner holds = (p : Problem) (at : List Mark) → AreKept p at corner.outline.now corner.lines.now
    → holds p at

-- the same if these are the levels' rows
abbrev pub WithLevels : CornerLines → List LevelSum → (Problem → List Mark → Type 0) → Type 0
WithLevels corner levels holds = (p : Problem) (at : List Mark)
    → AreKept p at corner.outline.now corner.lines.now → AreLevels p at corner.outline.now levels → holds p at

-- the same if the tableau has both
abbrev pub WithTableau : Tableau → (Problem → List Mark → Type 0) → Type 0
WithTableau tableau holds = WithLevels tableau.corner tableau.levels.now holds

-- the same if this is the row of the level at a place
abbrev pub WithRow : CornerLines → LevelRow → (Problem → List Mark → Type 0) → Type 0
WithRow corner row holds = (p : Problem) (at : List Mark)
    → AreKept p at corner.outline.now corner.lines.now → IsSumAt p at corner.outline.now row.place row.sum.now
    → holds p at

-- at the corner with these lines, whatever the levels' rows are, if this is the first of them
abbrev pub WithFirstRow : Problem → List Mark → Outline → List (Option Inside) → LevelSum → Type 0 → Type 0
WithFirstRow p at outline lines sum holds = (levels : List LevelSum) (d : LevelSum)
    → AreKept p at outline lines → AreLevels p at outline levels → get_or levels 0 d ≡ sum → holds
