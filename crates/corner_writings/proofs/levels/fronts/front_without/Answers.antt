use Rattle.std.proofs.Common.{◌≡◌, ◌∙◌, ℕ, ap, pos, subst, sym}
use Rattle.corner_table.specs.declared.table.Slot.{Slot}
use Rattle.corner_table.specs.Tables.{lists_of, problem_of}
use Rattle.corner_table.specs.Reads.LevelNumbers.{reduced_at}
use Rattle.corner_view.proofs.Facts.{mark_named}
use Rattle.corner_writings.specs.Walks.{IsNoneBelow}
use Rattle.corner_writings.proofs.levels.fronts.front_without.Goals as goal

pub line_slot-line-requires-clause-row : goal.line_slot-line-requires-clause-row
line_slot-line-requires-clause-row c = mark_named (problem_of (lists_of c.args.table.now)) c.args.mark c.requires.mark

pub front_beyond-requires-clause-home : goal.front_beyond-requires-clause-home
front_beyond-requires-clause-home c = sym (ap (λ (s : Slot). s.home) c.slot_at-slot.ensures) ∙ c.if-slot-l.true

pub front_beyond-requires-clause-below : goal.front_beyond-requires-clause-below
front_beyond-requires-clause-below c = subst (λ (w : ℕ). IsNoneBelow (lists_of c.args.table.now) w c.args.l) (sym c.line_slot-line.ensures.value) c.requires.lowest.below

pub front_beyond-requires-clause-nothing : goal.front_beyond-requires-clause-nothing
front_beyond-requires-clause-nothing c = subst (λ (w : ℕ). reduced_at (lists_of c.args.table.now) c.args.l w c.args.mark.side ≡ pos 0) (sym c.line_slot-line.ensures.value) c.requires.nothing
