use Rattle.std.proofs.Common.{◌≡◌, ◌∙◌, ℕ, ap, subst, sym}
use Rattle.row_core.specs.Rows.{Term}
use Rattle.corner_table.specs.Reads.LevelNumbers.{IsSlotOfLine}
use Rattle.corner_table.specs.Tables.{lists_of}
use Rattle.corner_writings.proofs.levels.growing.is_entry_dear.Goals as goal

pub reduced_by-requires-clause-line : goal.reduced_by-requires-clause-line
reduced_by-requires-clause-line c =
    let col : c.e.inside.col.0 ≡ c.args.e.col = ap (λ (t : Term). t.col) c.e.view_is in
    subst (λ (w : ℕ). IsSlotOfLine (lists_of c.args.table.now) w) (sym col) (c.requires.line (λ q. c.if-line-w.false (col ∙ q)))
