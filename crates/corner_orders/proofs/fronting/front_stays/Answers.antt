use Rattle.std.proofs.Common.{rules, ◌≡◌, ◌∙◌, List, All, ap, length, subst, sym}
use Rattle.problem_core.specs.declared.parts.Stay.{Stay}
use Rattle.problem_core.specs.Layout.{HasStay}
use Rattle.stay_orders.specs.Orders.{with_front}
use Rattle.stay_orders.proofs.Wholes.{front_length}
use Rattle.corner_table.proofs.Basics.SmallFacts.{own_stay}
use Rattle.corner_orders.proofs.Orders.FrontedKept.{all_stays}
use Rattle.corner_orders.proofs.fronting.front_stays.Goals as goal

pub put_order-requires-clause-held : goal.put_order-requires-clause-held
put_order-requires-clause-held c =
    let e : c.deref.result.now ≡ with_front c.args.attrs.now c.args.table.now.stays.items = search rules in
    subst (All (λ (s : Stay). HasStay c.args.table.now.stays.items s.attr)) (sym e)
    (all_stays (λ (s : Stay). HasStay c.args.table.now.stays.items s.attr) c.args.attrs.now c.args.table.now.stays.items (λ k x lt. own_stay c.args.table.now.stays.items k x lt))

pub put_order-requires-clause-count : goal.put_order-requires-clause-count
put_order-requires-clause-count c =
    let e : c.deref.result.now ≡ with_front c.args.attrs.now c.args.table.now.stays.items = search rules in
    ap (λ (ss : List Stay). length ss) e ∙ front_length c.args.attrs.now c.args.table.now.stays.items
