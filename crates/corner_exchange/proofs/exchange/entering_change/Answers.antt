use Rattle.std.proofs.Common.{rules, SFits, w64, ◌∙◌, sym, ap}
use Rattle.std.proofs.lemmas.Int.{to_z-of_z}
use Rattle.frac_core.specs.Fraction.{IsFitting}
use Rattle.row_core.specs.Rows.{coefficient}
use Rattle.corner_exchange.specs.Swaps.Exchanges.{signed}
use Rattle.corner_table.specs.Tables.{lists_of}
use Rattle.corner_exchange.proofs.Pivots.EnteringLines.{entering_is}
use Rattle.corner_exchange.proofs.Pivots.LineSlots.{read_row}
use Rattle.corner_exchange.proofs.exchange.entering_change.Goals as goal

pub returns : goal.returns
returns c =
    let fits : IsFitting c.args.pivot.now.by = c.requires.pivot.is.fits in
    let by : SFits w64 c.args.pivot.now.by = search rules in
    record {
      ok = λ s at. entering_is (lists_of c.args.table.now) c.args.pivot.now s c.turned_row.result c.requires.pivot.kept at c.turned_row.ensures.kept
          (λ k. (simp to_z-of_z at (c.turned_row.ensures.value k)) ∙ ap (λ row. signed c.args.pivot.now.by (coefficient k row)) (c.in_ok-row.ensures ∙ sym (read_row c.args.table.now.matrix.rows c.args.pivot.now.pair.leave c.row.result.now c.row.ensures.value)));
    }
