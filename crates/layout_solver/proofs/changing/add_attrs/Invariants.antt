use Rattle.std.proofs.Common.{◌≡◌, ◌++◌, drop, take}
use Rattle.layout_solver.specs.Layouts.{stays_at, zeros}
use Rattle.layout_solver.specs.Starts.{CanTake, attrs_of}
use Rattle.layout_solver.proofs.changing.add_attrs.Given as goal

abbrev pub invariant-loop-attr : goal.invariant-loop-attr
invariant-loop-attr g l = record {
  room : CanTake (attrs_of l.c.problem) (drop l.attr-index l.attrs);
  problem : l.c.problem ≡ record { rows = l.fn.c.problem.rows; stays = l.fn.c.problem.stays ++ stays_at (zeros (take l.attr-index l.attrs)) };
  marks : l.c.marks ≡ l.fn.c.marks;
  before : l.c.before ≡ l.fn.c.before;
  candidates : l.c.candidates ≡ l.fn.c.candidates;
}
