use Rattle.std.proofs.Common.{◌≡◌, ℕ, pos, sym, subst}
use Rattle.corner_table.specs.Tables.{lists_of, problem_of}
use Rattle.corner_table.specs.Reads.LevelNumbers.{IsSlotOfLine, reduced_at}
use Rattle.corner_view.proofs.Facts.{mark_named}
use Rattle.corner_writings.proofs.LevelFacts.LevelReadFacts.{named_line_slot}
use Rattle.corner_writings.proofs.levels.reduced_at.Goals as goal

pub line_slot-line-requires-clause-row : goal.line_slot-line-requires-clause-row
line_slot-line-requires-clause-row c = mark_named (problem_of (lists_of c.args.table.now)) c.args.mark c.requires.mark

pub reduced_of-requires-clause-line : goal.reduced_of-requires-clause-line
reduced_of-requires-clause-line c = subst (λ w. IsSlotOfLine (lists_of c.args.table.now) w) (sym c.line_slot-line.ensures.value) (named_line_slot (lists_of c.args.table.now) c.args.mark.row (mark_named (problem_of (lists_of c.args.table.now)) c.args.mark c.requires.mark))

pub returns-then-costs_nothing : goal.returns-then-costs_nothing
returns-then-costs_nothing c =
    subst (λ (w : ℕ). pos 0 ≡ reduced_at (lists_of c.args.table.now) c.args.l w c.args.mark.side) c.line_slot-line.ensures.value
    (sym (c.costs_nothing.ensures c.if-costs_nothing.true c.args.mark.side))
