use Rattle.corner_table.specs.Tables.{lists_of}
use Rattle.corner_exchange.proofs.Pivots.TouchedFacts.{AreGone}
use Rattle.corner_exchange.proofs.exchange.changes.Given as goal

abbrev pub invariant-loop-w : goal.invariant-loop-w
invariant-loop-w l = AreGone (lists_of l.fn.table) l.fn.pivot l.column l.w-index l.out.items
