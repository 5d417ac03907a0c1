use Rattle.std.proofs.Common.{arith}
use Rattle.problem_core.specs.declared.parts.Side.TheVariants.{Under}
use Rattle.corner_view.proofs.Facts.{mark_named}
use Rattle.corner_view.specs.Entries.{AreBothOutside}
use Rattle.corner_ends.proofs.Marks.{got_holds, in_mark}
use Rattle.primal_run.proofs.Deciders.{late_seen, lines_more, row_seen, unexchanged_seen}
use Rattle.primal_run.proofs.deciding.see_row.Goals as goal

pub see_line-best-requires-clause-row : goal.see_line-best-requires-clause-row
see_line-best-requires-clause-row g c = mark_named c.args.c.now.problem c.args.m (in_mark c.args.c.now.problem c.args.c.now.marks c.args.m c.show_corner.ensures.kept c.requires.inside)

pub see_line-best-requires-in-loop-i-clause-row : goal.see_line-best-requires-in-loop-i-clause-row
see_line-best-requires-in-loop-i-clause-row g c =
    let m = c.entries-count.ensures in
    mark_named c.args.c.now.problem (record { row = c.entry.result; side = Under }) (got_holds (AreBothOutside c.args.c.now.problem c.args.c.now.marks) m.0 c.loop-i.i c.entry.result m.1.outside (c.entry.ensures m.0 m.1) Under).0

pub loop-i-preserved : goal.loop-i-preserved
loop-i-preserved g c = record {
  decider = c.see_line-best-in-loop-i.ensures.decider;
  begun = c.see_line-best-in-loop-i.ensures.begun;
  later = λ f late. c.see_line-best-in-loop-i.ensures.later f (c.loop-i.invariant.later f late);
  own = λ side. late_seen c.args.c.now c.args.trail.now c.args.tie c.loop-i.best c.see_line-best-in-loop-i.result (record { row = c.args.m.row; side = side }) c.see_line-best-in-loop-i.ensures.later (c.loop-i.invariant.own side);
  entries = λ names are.
      lines_more c.args.c.now c.args.trail.now c.args.tie c.loop-i.best c.see_line-best-in-loop-i.result names c.loop-i.i c.entry.result c.see_line-best-in-loop-i.ensures.later (c.entry.ensures names are)
      c.see_line-best-in-loop-i.ensures.seen (c.loop-i.invariant.entries names are);
}

pub returns-clause-seen : goal.returns-clause-seen
returns-clause-seen g c = λ f here.
    let m = c.entries-count.ensures in
    let same = m.2 in
    let over = c.loop-i-test.false in
    row_seen c.args.c.now c.args.trail.now c.args.tie c.loop-i.best c.args.m f m.0 c.loop-i.i m.1 (omega (arith, same, over)) (c.loop-i.invariant.entries m.0 m.1) c.loop-i.invariant.own here

pub returns-then-not-is_spent-clause-seen : goal.returns-then-not-is_spent-clause-seen
returns-then-not-is_spent-clause-seen g c = λ f here.
    let m = c.entries-count.ensures in
    unexchanged_seen c.args.c.now c.args.trail.now c.args.tie c.see_line-best.result c.args.m f m.0 m.1
    (c.is_spent.ensures.no c.if-not-is_spent.true) c.see_line-best.ensures.seen here
