use Rattle.std.proofs.Common.{length}
use Rattle.corner_exchange.proofs.Swaps.PutFacts.{ArePutSoFar}
use Rattle.corner_exchange.proofs.exchange.put_changes.Given as goal

abbrev pub invariant-loop-change : goal.invariant-loop-change
invariant-loop-change l = ArePutSoFar l.fn.table l.fn.changes.items l.table l.changes.items

abbrev pub decreases-loop-change : goal.decreases-loop-change
decreases-loop-change l = length l.changes.items
