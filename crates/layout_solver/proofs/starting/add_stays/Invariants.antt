use Rattle.std.proofs.Common.{◌≡◌, [], take}
use Rattle.layout_solver.specs.Starts.{as_problem}
use Rattle.layout_solver.proofs.starting.add_stays.Given as goal

abbrev pub invariant-loop-stay : goal.invariant-loop-stay
invariant-loop-stay g l = record {
  problem : l.c.problem ≡ as_problem [] (take l.stay-index l.stays);
  marks : l.c.marks ≡ l.fn.c.marks;
  before : l.c.before ≡ l.fn.c.before;
  candidates : l.c.candidates ≡ l.fn.c.candidates;
}
