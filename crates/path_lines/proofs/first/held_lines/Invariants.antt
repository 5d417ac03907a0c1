use Rattle.path_lines.specs.Walking.FirstLines.{AreFirstLines}
use Rattle.path_lines.proofs.first.held_lines.Given as goal

abbrev pub invariant-loop-r : goal.invariant-loop-r
invariant-loop-r l = AreFirstLines l.p l.r-index l.out.items
