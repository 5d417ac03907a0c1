use Rattle.std.proofs.Common.{◌<◌, length, subst, sym}
use Rattle.problem_core.specs.Layout.{HasStay}
use Rattle.corner_view.specs.Seen.{CornerView}
use Rattle.corner_table.specs.Tables.{lists_of}
use Rattle.corner.proofs.corner.CornerTableau.add_attr.Goals as goal

pub join_attr-requires-clause-fresh : goal.join_attr-requires-clause-fresh
join_attr-requires-clause-fresh c = subst (λ (v : CornerView). HasStay v.problem.stays c.args.attr → ⊥) (sym c.self.view_is) c.requires.fresh

pub join_attr-requires-clause-room : goal.join_attr-requires-clause-room
join_attr-requires-clause-room c = subst (λ (v : CornerView). length v.problem.stays < 4096) (sym c.self.view_is) c.requires.room

pub invariant_of-self : goal.invariant_of-self
invariant_of-self c = (
  c.in-Ok.ensures.consistent,
  (
    c.forget_for_join.ensures.safe (lists_of c.join_attr.new.table),
    λ known. c.in-Ok.ensures.stays (c.forget_for_join.ensures.left known) c.forget_for_join.new.known.astray.lines (c.forget_for_join.ensures.astray known),
  ),
)

pub invariant_of-self-in-Err : goal.invariant_of-self-in-Err
invariant_of-self-in-Err c = (c.take_back.ensures.consistent, c.forget_known.ensures (lists_of c.take_back.new.table))
