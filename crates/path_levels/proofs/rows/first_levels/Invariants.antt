use Rattle.std.proofs.Common.{◌≡◌, length}
use Rattle.path_levels.specs.Levels.{AreSizedLevels}
use Rattle.path_levels.proofs.LevelsOfLines.{AreRowsTo}
use Rattle.path_levels.proofs.rows.first_levels.Given as goal

abbrev pub invariant-loop-place : goal.invariant-loop-place
invariant-loop-place l = record {
  count : length l.levels.items ≡ l.place;
  sized : AreSizedLevels (length l.fn.corner.lines.now) l.levels.items;
  rows : AreRowsTo l.fn.corner.outline.now l.fn.corner.lines.now l.place l.levels.items;
}
