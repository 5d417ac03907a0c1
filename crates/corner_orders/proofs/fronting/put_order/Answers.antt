use Rattle.std.proofs.Common.{rules, ◌≡◌, ◌∙◌, ◌<◌, List, All, ap, length, subst, sym, ℕ}
use Rattle.corner_table.specs.declared.table.TheConstants.{LEVELS}
use Rattle.corner_table.specs.Tables.{Lists, lists_of}
use Rattle.corner_orders.specs.Fronted.{slots_of}
use Rattle.corner_orders.proofs.Orders.FrontedSlots.{slots_put}
use Rattle.corner_orders.proofs.Orders.FrontedTables.{slots_within}
use Rattle.corner_orders.proofs.fronting.put_order.Goals as goal

pub put_ranks-requires-clause-within : goal.put_ranks-requires-clause-within
put_ranks-requires-clause-within c =
    let e : c.deref.result.now ≡ slots_of (lists_of c.args.table.now) c.args.order.now = search rules in
    subst (λ (ws : List ℕ). All (λ w. w < length c.args.table.now.slots.items) ws) (sym e) (slots_within (lists_of c.args.table.now) c.args.order.now c.requires.kept c.requires.held)

pub put_stays-requires : goal.put_stays-requires
put_stays-requires c =
    c.requires.count ∙ sym (ap (λ (x : Lists). length x.stays) (c.in_ok-put_ranks.ensures.lists ∙ slots_put LEVELS c.deref.result.now (lists_of c.args.table.now)))
