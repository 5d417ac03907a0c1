-- The sizes of a corner's kept parts.
use Rattle.std.specs.Prelude.{◌≡◌, length}
use Rattle.path_lines.specs.Sides.{IsWithin}
use Rattle.path_lines.specs.Tables.{AreSized}
use Rattle.path_levels.specs.declared.levels_after.LineExchange.{LineExchange}
use Rattle.path_levels.specs.declared.tableau.CornerLines.{CornerLines}
use Rattle.path_levels.specs.declared.tableau.Tableau.{Tableau}
use Rattle.path_levels.specs.Levels.{AreSizedLevels}
use Rattle.path_levels.specs.Outlines.{IsSizedOutline}

-- the outline is sized, and has as many lines as are kept
pub record HasOutline (corner : CornerLines) : Type 0 where
  pub outline_is : IsSizedOutline corner.outline.now
  pub count : length corner.lines.now ≡ length corner.outline.now.lines.items

-- and each line is sized
pub record IsSizedCorner (corner : CornerLines) : Type 0 where
  pub outline : HasOutline corner
  pub lines_are : AreSized corner.lines.now

-- the exchange is of two lines of a sized corner
pub record IsSizedExchange (exchange : LineExchange) : Type 0 where
  pub corner : IsSizedCorner exchange.corner
  pub step : IsWithin (length exchange.corner.lines.now) exchange.step

-- the outline is sized, it has as many lines as are kept, and each of its levels has a sized row
pub record HasSizedLevels (tableau : Tableau) : Type 0 where
  pub outline : HasOutline tableau.corner
  pub levels_are : AreSizedLevels (length tableau.corner.lines.now) tableau.levels.now
  pub level_count : length tableau.levels.now ≡ length tableau.corner.outline.now.levels.items
