use Rattle.std.proofs.Common.{rules, ◌≡◌, ◌++◌, [], ◌∷◌, subst}
use Rattle.corner_exchange.proofs.Swaps.PutFacts.{ArePutSoFar, one_more}
use Rattle.corner_exchange.proofs.exchange.put_changes.Goals as goal

pub loop-change-preserved : goal.loop-change-preserved
loop-change-preserved c =
    let split : c.loop-change.changes.items ≡ c.pop.new.self.items ++ c.in-Some.change ∷ [] = search rules in
    one_more c.args.table.now c.args.changes.items c.loop-change.table c.put_change.new.table c.pop.new.self.items c.in-Some.change
    (subst (λ left. ArePutSoFar c.args.table.now c.args.changes.items c.loop-change.table left) split c.loop-change.invariant) c.show_change.ensures c.in_ok-put_change.ensures.ok c.in_ok-put_change.ensures.before c.in_ok-put_change.ensures.alike
