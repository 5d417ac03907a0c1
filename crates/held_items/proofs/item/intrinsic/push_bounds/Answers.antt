use Rattle.problem_core.specs.Kept.{IsRow}
use Rattle.held_items.proofs.Lists.{each-snoc}
use Rattle.held_items.proofs.item.intrinsic.push_bounds.Goals as goal

pub returns-clause-each : goal.returns-clause-each
returns-clause-each c = λ each.
    each-snoc IsRow c.push.new.self.items c.push-2.new.self.items c.in_ok-most.most
    (each-snoc IsRow c.args.rows.now.items c.push.new.self.items c.in_ok-least.least each c.in_ok-least.ensures.kept c.in_ok-push.ensures.items)
    c.in_ok-most.ensures.kept c.in_ok-push-2.ensures.items
