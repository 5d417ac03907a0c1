use Rattle.path_lines.proofs.Arithmetic.AddedNumbers.{AreAddedTo}
use Rattle.path_lines.proofs.adding.add_at.Given as goal

abbrev pub invariant-loop-at : goal.invariant-loop-at
invariant-loop-at l = AreAddedTo l.at-index l.places l.fn.by l.factor l.others l.by
