use Rattle.std.proofs.Common.{◌<◌, ◌≤◌}
use Rattle.diagnosis.specs.Costs.{AreCosts}
use Rattle.diagnosis.proofs.priorities.costs.Given as goal

abbrev pub invariant-loop-rank : goal.invariant-loop-rank
invariant-loop-rank g l = record {
  some : 0 < l.rank;
  most : l.rank ≤ 1000;
  are : AreCosts l.e.problem l.e.values l.rank l.out.items;
}

abbrev pub decreases-loop-rank : goal.decreases-loop-rank
decreases-loop-rank g l = l.rank
