use Rattle.std.proofs.Common.{◌≡◌, ◌∙◌, ap, refl}
use Rattle.stay_orders.specs.Orders.{with_front}
use Rattle.layout_solver.specs.Layouts.{stays_at}
use Rattle.layout_solver.proofs.Posed.Wholes.{kept_whole}
use Rattle.layout_solver.proofs.posing.with_first.Goals as goal

pub of-requires : goal.of-requires
of-requires g c =
    let rows_are : c.in_ok-rows.rows.items ≡ c.args.engine.now.problem.rows = c.in_ok-rows.ensures.rows ∙ c.rows.ensures in
    let order_is : c.in_ok-order.order.items ≡ with_front c.args.attrs.now (stays_at c.args.engine.now.values) =
    c.in_ok-order.ensures ∙ ap (with_front c.args.attrs.now) (c.deref.ensures.value ∙ c.in_ok-stays.ensures) in
    rw (rows_are, order_is) (kept_whole c.args.engine.now c.show_layout.ensures.layout c.args.attrs.now)

pub returns : goal.returns
returns g c =
    let rows_are : c.in_ok-rows.rows.items ≡ c.args.engine.now.problem.rows = c.in_ok-rows.ensures.rows ∙ c.rows.ensures in
    let order_is : c.in_ok-order.order.items ≡ with_front c.args.attrs.now (stays_at c.args.engine.now.values) =
    c.in_ok-order.ensures ∙ ap (with_front c.args.attrs.now) (c.deref.ensures.value ∙ c.in_ok-stays.ensures) in
    rw (c.of.ensures, rows_are, order_is) refl
