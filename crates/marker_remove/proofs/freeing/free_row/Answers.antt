use Rattle.std.proofs.Common.{rules, ◌≡◌, subst, sym}
use Rattle.problem_core.specs.Layout.{Problem}
use Rattle.problem_core.specs.Corners.{NoNegativeValue, Swap, exchanged}
use Rattle.corner_view.specs.Seen.{CornerView}
use Rattle.marker_remove.specs.Freed.{DoStand}
use Rattle.marker_remove.proofs.FreedPaths.{freed_inside}
use Rattle.marker_remove.proofs.StayMoves.{row_outside, some_mover}
use Rattle.marker_remove.proofs.ZeroSwaps.{no_value, same_up, same_values}
use Rattle.marker_remove.proofs.freeing.free_row.Goals as goal
use Rattle.problem_core.proofs.Marks.{same-back as same_back}

pub leaving-leave-requires-clause-outside : goal.leaving-leave-requires-clause-outside
leaving-leave-requires-clause-outside g c = row_outside c.args.c.now.problem c.args.c.now.marks c.args.id c.mark_of-enter.result c.mark_of-enter.ensures c.requires.held (c.is_free.ensures.no c.if-is_free.false)

pub leaving-leave-requires-clause-some : goal.leaving-leave-requires-clause-some
leaving-leave-requires-clause-some g c = some_mover c.args.c.now.problem c.args.c.now.marks c.args.id c.mark_of-enter.result c.mark_of-enter.ensures c.show_corner.ensures.kept c.requires.held (c.is_free.ensures.no c.if-is_free.false)

pub swap-requires-clause-enter : goal.swap-requires-clause-enter
swap-requires-clause-enter g c = row_outside c.args.c.now.problem c.args.c.now.marks c.args.id c.mark_of-enter.result c.mark_of-enter.ensures c.requires.held (c.is_free.ensures.no c.if-is_free.false)

pub unfit-requires-clause-values : goal.unfit-requires-clause-values
unfit-requires-clause-values g c =
    let same : c.swap.new.self ≡ c.args.c.now = search rules in
    subst (λ (v : CornerView). NoNegativeValue v.problem v.marks) (sym same) c.requires.values

pub unfit-requires-clause-standing : goal.unfit-requires-clause-standing
unfit-requires-clause-standing g c =
    let same : c.swap.new.self ≡ c.args.c.now = search rules in
    subst (λ (v : CornerView). DoStand v.problem v.marks) (sym same) c.requires.standing

pub returns-in-Ok-clause-some : goal.returns-in-Ok-clause-some
returns-in-Ok-clause-some g c =
    let s : Swap = record { enter = c.mark_of-enter.result; leave = c.leaving-leave.result } in record {
      enter = c.mark_of-enter.ensures;
      stay = (c.leaving-leave.ensures.attr, c.leaving-leave.ensures.stay);
      exchange = c.in-Ok.ensures.exchange;
      same = no_value c.args.c.now.problem c.args.c.now.marks (record { enter = c.mark_of-enter.result; leave = c.leaving-leave.result }) c.leaving-leave.ensures.attr c.show_corner.ensures.kept.whole c.show_corner.ensures.kept.corner c.requires.standing c.leaving-leave.ensures.stay c.leaving-leave.ensures.moves.1.0;
      marks = same_back c.swap.new.self.marks (exchanged s c.args.c.now.marks) c.in-Ok.ensures.marks;
    }

pub returns-in-Ok-clause-inside : goal.returns-in-Ok-clause-inside
returns-in-Ok-clause-inside g c =
    freed_inside c.args.c.now.marks c.swap.new.self.marks c.args.id (record { enter = c.mark_of-enter.result; leave = c.leaving-leave.result }) c.leaving-leave.ensures.moves.1.0 c.mark_of-enter.ensures c.in-Ok.ensures.marks

pub returns-in-Ok-clause-same : goal.returns-in-Ok-clause-same
returns-in-Ok-clause-same g c =
    let s : Swap = record { enter = c.mark_of-enter.result; leave = c.leaving-leave.result } in
    same_values c.args.c.now.problem c.args.c.now.marks c.swap.new.self.marks (record { enter = c.mark_of-enter.result; leave = c.leaving-leave.result }) c.leaving-leave.ensures.attr c.show_corner.ensures.kept.whole c.show_corner.ensures.kept.corner c.requires.standing c.leaving-leave.ensures.stay c.leaving-leave.ensures.moves.1.0
    (same_back c.swap.new.self.marks (exchanged s c.args.c.now.marks) c.in-Ok.ensures.marks)

pub returns-in-Ok-clause-values : goal.returns-in-Ok-clause-values
returns-in-Ok-clause-values g c =
    let s : Swap = record { enter = c.mark_of-enter.result; leave = c.leaving-leave.result } in
    subst (λ (q : Problem). NoNegativeValue q c.swap.new.self.marks) (sym c.in-Ok.ensures.problem)
    (same_up c.args.c.now.problem c.args.c.now.marks c.swap.new.self.marks (record { enter = c.mark_of-enter.result; leave = c.leaving-leave.result }) c.leaving-leave.ensures.attr c.show_corner.ensures.kept.whole c.show_corner.ensures.kept.corner c.requires.standing c.leaving-leave.ensures.stay c.in-Ok.ensures.exchange
    (same_back c.swap.new.self.marks (exchanged s c.args.c.now.marks) c.in-Ok.ensures.marks) c.requires.values)
