use Rattle.std.proofs.Common.{◌≡◌, ◌+◌, length}
use Rattle.path_levels.specs.OutlineParts.{AreLevelsTo}
use Rattle.path_levels.proofs.outline.levels_of.Given as goal

abbrev pub invariant-loop-stay : goal.invariant-loop-stay
invariant-loop-stay l = record {
  levels : AreLevelsTo l.p (length l.fn.ranks.items) l.stay-index l.levels.items;
  number : l.number ≡ 1001 + l.stay-index;
}
