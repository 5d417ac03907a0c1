use Rattle.std.proofs.Common.{◌≡◌, length}
use Rattle.path_lines.proofs.Replacing.{AreDoneTo}
use Rattle.path_levels.specs.Levels.{IsSizedLevel}
use Rattle.path_levels.proofs.Exchanges.AllNextLevels.{IsNextAt}
use Rattle.path_levels.proofs.levels_after.levels_by.Given as goal

abbrev pub invariant-loop-place : goal.invariant-loop-place
invariant-loop-place l = record {
  end : l.place-end ≡ length l.fn.levels.items;
  done : AreDoneTo (IsNextAt l.fn.exchange.corner.outline.now l.fn.exchange.corner.lines.now l.fn.exchange.step) (IsSizedLevel (length l.fn.exchange.corner.lines.now)) l.fn.levels.items l.place l.out.items;
}
