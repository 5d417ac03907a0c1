use Rattle.std.proofs.Common.{length, ◌+◌}
use Rattle.path_lines.specs.Walking.FirstLines.{AreFirstLines}
use Rattle.path_lines.proofs.first.with_stays.Given as goal

abbrev pub invariant-loop : goal.invariant-loop
invariant-loop l = AreFirstLines l.p (length l.p.rows + l.counter) l.out.items
