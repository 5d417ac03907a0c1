use Rattle.std.proofs.Common.{false, List, take}
use Rattle.problem_core.specs.declared.parts.Mark.{Mark}
use Rattle.problem_core.specs.declared.stops.What.{What}
use Rattle.problem_core.specs.Corners.{place}
use Rattle.corner_view.specs.Seen.{AreMovers}
use Rattle.corner_ends.specs.Trails.{IsTrailOf, in_tie_order}
use Rattle.primal_run.specs.Leaving.{IsFirstOf, IsRatioOrNone}
use Rattle.primal_run.proofs.leaving.leaving.Given as goal

abbrev pub invariant-loop-i : goal.invariant-loop-i
invariant-loop-i g l = record {
  ratio : IsRatioOrNone l.c.problem l.c.marks (place l.enter) l.found;
  first : (first : List Mark) → IsTrailOf false l.c.problem first l.trail l.c.marks → (whats : List What) → AreMovers l.c l.enter whats → IsFirstOf l.c.problem l.c.marks (place l.enter) (in_tie_order first) (take l.i whats) l.found;
}
