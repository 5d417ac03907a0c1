use Rattle.std.proofs.Common.{◌≡◌}
use Rattle.conflict_core.specs.Cores.{trial}
use Rattle.conflict_core.specs.Searches.{IsSearch, left_of}
use Rattle.conflict_core.specs.Yielding.{GivesWay}
use Rattle.conflict_core.proofs.yielding.go_on.Given as goal

abbrev pub invariant-loop-last : goal.invariant-loop-last
invariant-loop-last g l = record {
  way : IsSearch l.t.problem.now l.s;
  gives : GivesWay l.t.problem.now l.s.rows.items l.last l.e;
  rows : l.clash.rows.now ≡ (trial l.t.problem.now l.s.rows.items).rows;
}

abbrev pub decreases-loop-last : goal.decreases-loop-last
decreases-loop-last g l = left_of l.s
