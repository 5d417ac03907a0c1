use Rattle.std.proofs.Common.{◌≡◌, ◌*◌, ◌%◌, sym, ◌∙◌, ap₂, arith}
use Rattle.std.specs.Ordering.{nat_cmp}
use Rattle.frac_core.proofs.Orders.{by_wholes, by_rests, at_zero}
use Rattle.frac_core.proofs.order.cmp_sizes.Goals as goal

pub returns-then-whole_left-whole_right : goal.returns-then-whole_left-whole_right
returns-then-whole_left-whole_right c =
    let l = c.loop-whole_left in
    c.cmp.ensures ∙ by_wholes l.a l.b l.c l.d l.invariant.left_den l.invariant.right_den c.if-whole_left-whole_right.true ∙ sym l.invariant.same_order

pub returns-then-rest_left-eq0 : goal.returns-then-rest_left-eq0
returns-then-rest_left-eq0 c =
    let l = c.loop-whole_left in
    c.cmp-then-rest_left-eq0.ensures
    ∙ at_zero (l.a % l.b) (l.c % l.d) l.b l.d l.invariant.left_den l.invariant.right_den (omega (arith, c.then-rest_left-eq0.either))
    ∙ sym (by_rests l.a l.b l.c l.d c.if-whole_left-whole_right.false)
    ∙ sym l.invariant.same_order

pub loop-whole_left-preserved : goal.loop-whole_left-preserved
loop-whole_left-preserved c =
    let l = c.loop-whole_left in
    let left : (l.a % l.b) * l.d ≡ l.d * (l.a % l.b) = omega arith in
    let right : (l.c % l.d) * l.b ≡ l.b * (l.c % l.d) = omega arith in
    record {
      left_den = omega arith;
      right_den = omega arith;
      same_order = l.invariant.same_order ∙ by_rests l.a l.b l.c l.d c.if-whole_left-whole_right.false ∙ ap₂ nat_cmp left right;
    }
