use Rattle.std.proofs.Common.{ℕ, refl, subst}
use Rattle.problem_core.specs.declared.parts.Level.TheVariants.{Priority}
use Rattle.corner_table.specs.Tables.{lists_of, problem_of, row_at}
use Rattle.corner_writings.specs.Growing.{IsRowDear}
use Rattle.corner_writings.proofs.LevelFacts.GrowingFacts.{growers_dear}
use Rattle.corner_view.proofs.Facts.{mark_named}
use Rattle.corner_table.proofs.Readings.WritingFacts.{in_mark}
use Rattle.corner.proofs.safe.is_safe.Goals as goal

pub line_slot-requires-clause-row : goal.line_slot-requires-clause-row
line_slot-requires-clause-row c = mark_named (problem_of (lists_of c.args.table.now)) c.args.mark (in_mark (lists_of c.args.table.now) c.args.mark c.requires.kept c.requires.inside)

pub returns : goal.returns
returns c = λ yes.
    growers_dear (lists_of c.args.table.now) c.args.mark (Priority 1000) 0 c.requires.kept c.requires.inside (0, refl) refl
    (subst (λ (w : ℕ). IsRowDear (lists_of c.args.table.now) w c.args.mark.side 0 (row_at (lists_of c.args.table.now) w)) c.line_slot.ensures.value (c.is_line_safe.ensures yes))
