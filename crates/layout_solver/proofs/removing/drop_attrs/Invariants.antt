use Rattle.std.proofs.Common.{◌≡◌, take}
use Rattle.layout_solver.specs.Removals.{without_attrs}
use Rattle.layout_solver.proofs.removing.drop_attrs.Given as goal

abbrev pub invariant-loop-attr : goal.invariant-loop-attr
invariant-loop-attr g l = record {
  problem : l.c.problem ≡ without_attrs (take l.attr-index l.attrs) l.fn.c.problem;
  marks : l.c.marks ≡ l.fn.c.marks;
  before : l.c.before ≡ l.fn.c.before;
}
