use Rattle.std.proofs.Common.{◌≡◌, take}
use Rattle.layout_solver.specs.Removals.{HaveGone}
use Rattle.layout_solver.proofs.removing.drop_rows.Given as goal

abbrev pub invariant-loop-gone : goal.invariant-loop-gone
invariant-loop-gone g l = record {
  before : l.c.before ≡ l.fn.c.before;
  gone : HaveGone l.fn.c.problem l.fn.c.marks (take l.gone l.rows) (take l.gone l.rows) l.c;
}
