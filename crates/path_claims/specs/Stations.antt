-- The lines and levels of a corner of the route, and the parts kept to make them.
use Rattle.std.specs.Prelude.{◌≡◌, ◌⊎◌, ℕ, List, length, Option, None, Some}
use Rattle.problem_core.specs.declared.parts.Mark.{Mark}
use Rattle.problem_core.specs.declared.parts.Level.{Level}
use Rattle.problem_core.specs.Layout.{Problem}
use Rattle.problem_core.specs.Corners.{IsExchange, exchanged}
use Rattle.problem_core.specs.Unfit.{IsUnfitRows}
use Rattle.path_lines.specs.declared.spots.Step.{Step}
use Rattle.path_lines.specs.Walking.FirstLines.{HasUnfitFirst}
use Rattle.path_lines.specs.Exchanges.Pivots.{HasUnfit}
use Rattle.path_lines.specs.Route.{over_marks}
use Rattle.path_lines.specs.Sides.{IsWithin}
use Rattle.path_lines.specs.Tables.{AreSized, swap_of}
use Rattle.path_levels.specs.declared.outline.Outline.{Outline}
use Rattle.path_claims.specs.declared.stations.Station.{Station}
use Rattle.path_claims.specs.declared.stations.Table.{Table}
use Rattle.path_fits.specs.Fits.{AllAttrsFit}
use Rattle.path_levels.specs.Levels.{AreLevels, AreSizedLevels}
use Rattle.path_levels.specs.Rows.{AreKept}

-- ---- lines and levels

-- as many as the outline says, and all fit
pub record IsSizedTable (outline : Outline) (table : Table) : Type 0 where
  pub lines : AreSized table.lines.items
  pub count : length table.lines.items ≡ length outline.lines.items
  pub levels : AreSizedLevels (length table.lines.items) table.levels.items
  pub level_count : length table.levels.items ≡ length outline.levels.items

-- they are those of the corner, and each attribute fits there
pub record IsTableAt (p : Problem) (at : List Mark) (outline : Outline) (table : Table) : Type 0 where
  pub kept : AreKept p at outline table.lines.items
  pub levels : AreLevels p at outline table.levels.items
  pub attrs : AllAttrsFit p at

-- the table after an exchange of the corner
abbrev pub LeadsToTable : Problem → Outline → Table → Step → Table → Type 0
LeadsToTable p outline table step next = (at : List Mark) → IsTableAt p at outline table
    → IsExchange p at (swap_of p step) → IsTableAt p (exchanged (swap_of p step) at) outline next

-- something does not fit there
abbrev pub LeadsToUnfitTable : Problem → Outline → Table → Step → Type 0
LeadsToUnfitTable p outline table step = (at : List Mark) → IsTableAt p at outline table
    → IsExchange p at (swap_of p step) → HasUnfit p (exchanged (swap_of p step) at)

-- a sum of first rows does not fit where the route begins
abbrev pub HasUnfitRows : Problem → Type 0
HasUnfitRows p = (level : Level) × (j : ℕ) × IsUnfitRows p (over_marks p) level j

-- a sum of first terms or of first rows does not fit where the route begins
abbrev pub HasUnfitSum : Problem → Type 0
HasUnfitSum p = HasUnfitFirst p ⊎ HasUnfitRows p

-- ---- a corner of the route

-- the exchange leads here from the corner before, whose table this is
pub record ComesBy (p : Problem) (at : List Mark) (outline : Outline) (table : Table) (step : Step)
    : Type 0 where
  pub before : List Mark
  pub table_is : IsTableAt p before outline table
  pub exchange : IsExchange p before (swap_of p step)
  pub next : at ≡ exchanged (swap_of p step) before

-- nothing is kept of the corner where the route begins; of a later one, the table before the last exchange
abbrev pub IsStationBy : Problem → List Mark → Outline → Table → Option Step → Type 0
IsStationBy p at outline table None = at ≡ over_marks p
IsStationBy p at outline table (Some step) = ComesBy p at outline table step

-- the station is that of the corner
abbrev pub IsStation : Problem → List Mark → Outline → Station → Type 0
IsStation p at outline station = IsStationBy p at outline station.table station.step

-- before an exchange the table has the outline's lengths and fits, and both of the exchange's lines are in it
abbrev pub IsUsableBy : Outline → Table → Option Step → Type 0
IsUsableBy outline table None = Unit {0}
IsUsableBy outline table (Some step) = IsSizedTable outline table × IsWithin (length table.lines.items) step

-- the table and the exchange of the station are usable
abbrev pub IsUsableStation : Outline → Station → Type 0
IsUsableStation outline station = IsUsableBy outline station.table station.step

-- something that counts does not fit at the corner
abbrev pub IsStuckAt : Problem → List Mark → Option Step → Type 0
IsStuckAt p at None = HasUnfitSum p
IsStuckAt p at (Some step) = HasUnfit p at
