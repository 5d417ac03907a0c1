use Rattle.std.proofs.Common.{rules, ◌≡◌, ◌<◌, ◌^◌, ◌*ℤ◌, ℤ, sym, subst, unsigned_abs, to_z, of_z}
use Rattle.std.specs.Int.{w128}
use Rattle.frac_core.specs.Fraction.{IsFitting}
use Rattle.row_core.specs.Rows.{coefficient}
use Rattle.corner_writings.specs.Fitting.{line_size}
use Rattle.corner_table.specs.Tables.{lists_of, slot_at}
use Rattle.corner_writings.proofs.LevelFacts.FittingRows.{small_size}
use Rattle.corner_writings.proofs.levels.fitting.line_at.Goals as goal

pub returns-clause-small : goal.returns-clause-small
returns-clause-small c =
    let e : to_z w128 (of_z w128 (to_z w128 (of_z w128 c.from-2.result) *ℤ to_z w128 (of_z w128 c.from-3.result))) ≡ line_size (lists_of c.args.table.now) c.args.draft c.args.row.now c.args.at = search rules in
    let own : IsFitting (coefficient c.args.draft.level c.args.row.now) = search rules in
    subst (λ (z : ℤ). unsigned_abs z < 2 ^ 100) (sym e) (small_size (coefficient c.args.draft.level c.args.row.now) (slot_at (lists_of c.args.table.now) c.args.at) c.args.draft.unit own c.requires.counted)
