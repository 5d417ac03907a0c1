use Rattle.std.proofs.Common.{subst, arith}
use Rattle.std.specs.Prelude.{All}
use Rattle.std.proofs.lemmas.List.{take_all}
use Rattle.corner_table.specs.Moves.{IsListedOrStayed, marked_of}
use Rattle.corner_table.specs.Tables.{lists_of}
use Rattle.corner_table.proofs.Readings.MoveFacts.{next_came, next_kept}
use Rattle.corner_table.proofs.moved.moved_at_places.Goals.{in-Some+in_ok-push, in_default}
use Rattle.corner_table.proofs.moved.moved_at_places.Goals as goal

pub loop-w-preserved : goal.loop-w-preserved
loop-w-preserved c =
    elim c.match-moved_at.branch [
      | in-Some+in_ok-push w ↦
          rw (w.out-is, w.in_ok-push.ensures.items)
          (next_came (marked_of c.args.table.now) (lists_of c.args.table.now) c.loop-w.out.items c.args.places.now c.loop-w.w-index
          w.in-Some.attr c.loop-w-test.true c.loop-w.invariant w.in-Some.ensures.own w.in-Some.ensures.moved)
      | in_default w ↦
          rw w.out-is
          (next_kept (marked_of c.args.table.now) (lists_of c.args.table.now) c.loop-w.out.items c.args.places.now c.loop-w.w-index
          c.loop-w-test.true c.loop-w.invariant w.in_default.ensures.none)
    ]

pub returns-clause-stayed : goal.returns-clause-stayed
returns-clause-stayed c =
    subst (All (IsListedOrStayed (marked_of c.args.table.now) (lists_of c.args.table.now) c.loop-w.out.items))
    (take_all c.loop-w.w-index c.args.places.now (omega (arith, c.loop-w-test.false))) c.loop-w.invariant.stayed
