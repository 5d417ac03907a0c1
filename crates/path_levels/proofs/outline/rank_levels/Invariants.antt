use Rattle.path_levels.specs.OutlineParts.{AreRankLevels}
use Rattle.path_levels.proofs.outline.rank_levels.Given as goal

abbrev pub invariant-loop-number : goal.invariant-loop-number
invariant-loop-number l = AreRankLevels l.p.rows l.number l.levels.items
