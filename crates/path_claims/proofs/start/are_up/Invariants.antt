use Rattle.std.proofs.Common.{length}
use Rattle.problem_core.specs.Kept.{IsWhole}
use Rattle.problem_core.specs.Layout.{Problem}
use Rattle.path_lines.specs.Walking.FirstLines.{AreFirstLines}
use Rattle.path_claims.specs.Starts.{AreUpTo}
use Rattle.path_claims.proofs.start.are_up.Given as goal

abbrev pub invariant-loop-at : goal.invariant-loop-at
invariant-loop-at l = (p : Problem) → IsWhole p → AreFirstLines p (length l.lines) l.lines → AreUpTo p l.at
