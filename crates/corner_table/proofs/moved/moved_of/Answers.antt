use Rattle.std.proofs.Common.{ℕ, List, subst, arith, sym}
use Rattle.std.specs.Prelude.{Contains}
use Rattle.std.proofs.lemmas.List.{take_all}
use Rattle.corner_table.specs.Moves.{marked_of}
use Rattle.corner_table.specs.Tables.{lists_of}
use Rattle.corner_table.proofs.Readings.MoveFacts.{next_moved, next_stayed}
use Rattle.corner_table.proofs.moved.moved_of.Goals.{then-has_moved+in_ok-push, else-has_moved}
use Rattle.corner_table.proofs.moved.moved_of.Goals as goal

pub loop-attr-preserved : goal.loop-attr-preserved
loop-attr-preserved c =
    elim c.if-has_moved.branch [
      | then-has_moved+in_ok-push w ↦
          rw (w.out-is, w.in_ok-push.ensures.items)
          (next_moved (marked_of c.args.table.now) (lists_of c.args.table.now) c.args.attrs.now c.loop-attr.out.items c.loop-attr.attr-index
          c.loop-attr-test.true c.loop-attr.invariant (c.has_moved.ensures.yes w.if-has_moved.true))
      | else-has_moved w ↦
          rw w.out-is
          (next_stayed (marked_of c.args.table.now) (lists_of c.args.table.now) c.args.attrs.now c.loop-attr.out.items c.loop-attr.attr-index
          c.loop-attr-test.true c.loop-attr.invariant (c.has_moved.ensures.no w.if-has_moved.false))
    ]

pub returns-clause-others : goal.returns-clause-others
returns-clause-others c = λ attr has.
    c.loop-attr.invariant.others attr
    (subst (λ (xs : List ℕ). Contains xs attr) (sym (take_all c.loop-attr.attr-index c.args.attrs.now (omega (arith, c.loop-attr-test.false)))) has)
