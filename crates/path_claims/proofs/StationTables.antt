-- The lines and levels of a corner of the route, from those of the corner before.
use Rattle.std.proofs.Common.{◌≡◌, ℕ, List, length, sym, subst, Option, Some}
use Rattle.problem_core.specs.declared.parts.Mark.{Mark}
use Rattle.problem_core.specs.declared.parts.Level.{Level}
use Rattle.problem_core.specs.declared.stops.What.TheVariants.{Level as LevelOf}
use Rattle.problem_core.specs.Layout.{Problem, lines as lines_of}
use Rattle.problem_core.specs.Kept.{IsWhole}
use Rattle.problem_core.specs.Corners.{IsExchange, exchanged}
use Rattle.path_lines.specs.declared.spots.Step.{Step}
use Rattle.path_lines.specs.declared.table.Inside.{Inside}
use Rattle.path_lines.specs.Exchanges.Pivots.{HasUnfit, LeadTo, LeadToUnfit}
use Rattle.path_lines.specs.Route.{over_marks}
use Rattle.path_lines.specs.Tables.{AreLines, IsThere, line_count, swap_of}
use Rattle.path_lines.proofs.Walking.FirstCorner.{begins_there}
use Rattle.path_levels.specs.declared.outline.Outline.{Outline}
use Rattle.path_levels.specs.declared.tableau.CornerLines.{CornerLines}
use Rattle.path_claims.specs.declared.stations.Table.{Table}
use Rattle.path_levels.specs.Outlines.{IsOutline}
use Rattle.path_fits.specs.Fits.{AllAttrsFit}
use Rattle.path_levels.specs.Levels.{AreLevels, HasUnfitLevel}
use Rattle.path_levels.specs.Rows.{AreKept, IsLevelsStop, unfit_rows}
use Rattle.path_claims.specs.Stations.{HasUnfitRows, IsStationBy, IsStuckAt, LeadsToTable, LeadsToUnfitTable}
use Rattle.path_levels.proofs.Counting.LineShares.{facts_count as facts_long}

pub outline_long : (p : Problem) (outline : Outline) → IsOutline p outline → length outline.lines.items ≡ line_count p
outline_long p outline is = facts_long outline.levels.items (lines_of p) outline.lines.items is.lines_are

-- ---- where the route begins

pub begins_kept : (p : Problem) (outline : Outline) (lines : List (Option Inside)) → IsOutline p outline → IsWhole p → AreLines p (over_marks p) lines → AreKept p (over_marks p) outline lines
begins_kept p outline lines is whole are = record { outline_is = is; there = begins_there p whole; lines_are = are }

pub rows_unfit : (p : Problem) (corner : CornerLines) (level : Level) (j : ℕ) → AreKept p (over_marks p) corner.outline.now corner.lines.now → IsLevelsStop corner (unfit_rows level j) → HasUnfitRows p
rows_unfit p corner level j kept stops = (level, j, (stops p (over_marks p) kept).unfit)

-- ---- after an exchange

pub leads_to_table : (p : Problem) (outline : Outline) (table next : Table) (step : Step) → LeadTo step table.lines.items next.lines.items
    → ((at : List Mark) → IsThere p at → AreLines p at next.lines.items → AllAttrsFit p at)
    → ((at : List Mark) → AreKept p at outline table.lines.items → AreLevels p at outline table.levels.items → IsExchange p at (swap_of p step) → AreLevels p (exchanged (swap_of p step) at) outline next.levels.items) → LeadsToTable p outline table step next
leads_to_table p outline table next step leads fits levels at is ex =
    let lines = leads p at is.kept.there is.kept.lines_are ex in
    record { kept = record { outline_is = is.kept.outline_is; there = lines.0; lines_are = lines.1 }; levels = levels at is.kept is.levels ex; attrs = fits (exchanged (swap_of p step) at) lines.0 lines.1 }

pub lines_lead_unfit : (p : Problem) (outline : Outline) (table : Table) (step : Step) → LeadToUnfit step table.lines.items → LeadsToUnfitTable p outline table step
lines_lead_unfit p outline table step unfit at is ex = unfit p at is.kept.there is.kept.lines_are ex

pub attrs_lead_unfit : (p : Problem) (outline : Outline) (table : Table) (step : Step) (next : List (Option Inside)) → LeadTo step table.lines.items next → ((at : List Mark) → IsThere p at → AreLines p at next → HasUnfit p at) → LeadsToUnfitTable p outline table step
attrs_lead_unfit p outline table step next leads unfit at is ex =
    let lines = leads p at is.kept.there is.kept.lines_are ex in
    unfit (exchanged (swap_of p step) at) lines.0 lines.1

pub levels_lead_unfit : (p : Problem) (outline : Outline) (table : Table) (step : Step) → ((at : List Mark) → AreKept p at outline table.lines.items → AreLevels p at outline table.levels.items → IsExchange p at (swap_of p step) → HasUnfitLevel p (exchanged (swap_of p step) at)) → LeadsToUnfitTable p outline table step
levels_lead_unfit p outline table step unfit at is ex = let u = unfit at is.kept is.levels ex in (LevelOf u.0, u.1)

-- ---- from what is kept

pub table_stuck : (p : Problem) (outline : Outline) (table : Table) (o : Option Step) (step : Step) → o ≡ Some step → LeadsToUnfitTable p outline table step → (at : List Mark) → IsStationBy p at outline table o → IsStuckAt p at o
table_stuck p outline table o step is unfit at by =
    let b = subst (IsStationBy p at outline table) is by in
    subst (IsStuckAt p at) (sym is) (subst (λ (ms : List Mark). IsStuckAt p ms (Some step)) (sym b.next) (unfit b.before b.table_is b.exchange))
