use Rattle.std.proofs.Common.{◌≡◌, ◌++◌, map, take}
use Rattle.problem_core.specs.Unfit.{over_mark}
use Rattle.corner_table.proofs.marking.push_over.Given as goal

abbrev pub invariant-loop-row : goal.invariant-loop-row
invariant-loop-row l = l.out.items ≡ l.fn.out.items ++ map (λ r. over_mark r.id) (take l.row-index l.rows)
