use Rattle.std.proofs.Common.{◌≡◌}
use Rattle.problem_core.specs.Kept.{IsWhole}
use Rattle.dual_run.specs.Leaving.{AreLowLines}
use Rattle.layout_solver.proofs.Shifts.ShiftedProblems.{HasShifted}
use Rattle.layout_solver.proofs.shifting.shift_all.Given as goal

abbrev pub invariant-loop-change : goal.invariant-loop-change
invariant-loop-change g l = record {
  shifted : HasShifted l.fn.c.problem l.to l.change-index l.changed l.c.problem;
  whole : IsWhole l.c.problem;
  low : AreLowLines l.c.problem l.c.marks l.low.items;
  marks : l.c.marks ≡ l.fn.c.marks;
  before : l.c.before ≡ l.fn.c.before;
  candidates : l.c.candidates ≡ l.fn.c.candidates;
}
