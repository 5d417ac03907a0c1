use Rattle.std.proofs.Common.{◌≡◌, take}
use Rattle.problem_core.specs.Corners.{NoNegativeValue}
use Rattle.layout_solver.specs.Starts.{as_problem}
use Rattle.layout_solver.specs.Trials.{AreLed}
use Rattle.layout_solver.proofs.starting.join_each.Given as goal

abbrev pub invariant-loop-i : goal.invariant-loop-i
invariant-loop-i g l = record {
  problem : l.c.problem ≡ as_problem (take l.i l.rows) l.fn.c.problem.stays;
  values : NoNegativeValue l.c.problem l.c.marks;
  before : l.c.before ≡ l.fn.c.before;
  led : AreLed l.fn.c.problem.stays l.rows l.budget l.i l.c.marks;
}
