use Rattle.std.proofs.lemmas.Int.{to_z-of_z}
use Rattle.corner_exchange.proofs.Basics.SumTurns.{nothing-added}
use Rattle.corner_exchange.proofs.exchange.named_sum.Goals as goal

pub returns-then-is_nothing-clause-ok : goal.returns-then-is_nothing-clause-ok
returns-then-is_nothing-clause-ok c = nothing-added c.args.a c.args.t c.args.n c.args.d ((simp (to_z-of_z, c.ranges.n) at c.is_nothing.ensures) c.if-is_nothing.true)
