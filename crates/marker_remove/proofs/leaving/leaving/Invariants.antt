use Rattle.std.proofs.Common.{List, All, take}
use Rattle.problem_core.specs.declared.stops.What.{What}
use Rattle.corner_view.specs.Seen.{AreMovers}
use Rattle.marker_remove.proofs.StayMoves.{IsNoStay}
use Rattle.marker_remove.proofs.leaving.leaving.Given as goal

abbrev pub invariant-loop-i : goal.invariant-loop-i
invariant-loop-i g l = (whats : List What) → AreMovers l.c l.enter whats → All IsNoStay (take l.i whats)
