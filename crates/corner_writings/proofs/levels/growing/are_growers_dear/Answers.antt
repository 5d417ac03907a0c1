use Rattle.std.proofs.Common.{subst, ℕ}
use Rattle.corner_writings.specs.Growing.{IsRowDear}
use Rattle.corner_table.specs.Tables.{lists_of, problem_of, row_at}
use Rattle.corner_writings.proofs.LevelFacts.GrowingFacts.{growers_dear}
use Rattle.corner_view.proofs.Facts.{mark_named}
use Rattle.corner_table.proofs.Readings.WritingFacts.{in_mark}
use Rattle.corner_writings.proofs.levels.growing.are_growers_dear.Goals as goal

pub line_slot-w-requires-clause-row : goal.line_slot-w-requires-clause-row
line_slot-w-requires-clause-row c = mark_named (problem_of (lists_of c.args.table.now)) c.args.mark (in_mark (lists_of c.args.table.now) c.args.mark c.requires.kept c.requires.inside)

pub returns : goal.returns
returns c = λ yes.
    growers_dear (lists_of c.args.table.now) c.args.mark c.args.level c.level_slot.result c.requires.kept c.requires.inside c.requires.level c.level_slot.ensures.value
    (subst (λ (w : ℕ). IsRowDear (lists_of c.args.table.now) w c.args.mark.side c.level_slot.result (row_at (lists_of c.args.table.now) w)) c.line_slot-w.ensures.value (c.is_row_dear.ensures yes))
