use Rattle.std.proofs.Common.{◌≡◌, ◌+◌, length}
use Rattle.path_levels.specs.OutlineParts.{AreFactsTo}
use Rattle.path_levels.proofs.outline.lines_of.Given as goal

abbrev pub invariant-loop-stay : goal.invariant-loop-stay
invariant-loop-stay l = record {
  facts : AreFactsTo l.p l.levels (length l.p.rows + l.stay-index) l.lines.items;
  level : l.level ≡ l.ranks + l.stay-index;
}
