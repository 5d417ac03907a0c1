use Rattle.std.proofs.Common.{◌≡◌, ◌≤◌, ◌-◌, length}
use Rattle.corner_lines.specs.Shifts.{with_constant}
use Rattle.sweep_run.specs.Slides.{IsSlidingFrom}
use Rattle.sweep_run.proofs.slides.slide.Given as goal

abbrev pub invariant-loop-trail : goal.invariant-loop-trail
invariant-loop-trail g l = record {
  problem : l.c.problem ≡ with_constant l.way.row l.way.end l.fn.c.problem;
  before : l.c.before ≡ l.fn.c.before;
  sliding : IsSlidingFrom l.fn.c.marks l.c l.way l.trail l.slid;
  few : length l.trail.swaps ≤ l.budget;
}

abbrev pub decreases-loop-trail : goal.decreases-loop-trail
decreases-loop-trail g l = l.budget - length l.trail.swaps
