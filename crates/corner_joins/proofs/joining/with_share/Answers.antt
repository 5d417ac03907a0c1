use Rattle.std.proofs.Common.{rules, SFits, w64, ◌∙◌, inl, inr, ℕ, ap, refl}
use Rattle.std.specs.Int.{w128}
use Rattle.std.proofs.lemmas.Int.{to_z-of_z}
use Rattle.corner_table.specs.Tables.{lists_of}
use Rattle.corner_joins.specs.Additions.CostJoins.{IsShared, IsShareStop}
use Rattle.row_core.specs.Rows.{IsKeptRow, coefficient}
use Rattle.corner_table.specs.declared.table.Slot.{Slot}
use Rattle.corner_exchange.proofs.Pivots.LineSlots.{err_of, ok_of, read_row}
use Rattle.corner_joins.proofs.Costs.CostRows.{shared_row, unfit_share}
use Rattle.corner_joins.proofs.joining.with_share.Goals as goal
use Rattle.frac_core.proofs.Results.{ok_implies, err_implies as err_all}

pub returns-clause-ok : goal.returns-clause-ok
returns-clause-ok c =
    let n : SFits w64 c.args.count = c.ranges.count in
    let t : SFits w64 c.args.times = c.ranges.times in
    let o : SFits w64 c.entry-own.result = search rules in
    let l : SFits w64 c.own_of.result = search rules in
    let k : SFits w128 c.share_factors-k.result.k = search rules in
    let m : SFits w128 c.share_factors-k.result.n = search rules in
    ok_implies c.named_row.result _ (IsShared (lists_of c.args.table.now) c.args.old.now c.args.line c.args.count c.args.times)
    (λ row e. shared_row (lists_of c.args.table.now) c.args.old.now c.row.result.now row c.args.line c.args.count c.args.times c.entry-own.result c.own_of.result c.share_factors-k.result _
    (simp to_z-of_z at (ok_of c.combine_but.result row _ e c.combine_but.ensures.value)) c.from-2.ensures refl (read_row c.args.table.now.matrix.rows c.args.line c.row.result.now c.row.ensures.value)
    (c.entry-own.ensures.value ∙ ap (λ (w : ℕ). coefficient w c.args.old.now) c.from.ensures ∙ ap (λ (slot : Slot). coefficient slot.home c.args.old.now) c.slot_at-home.ensures) c.own_of.ensures.value (simp to_z-of_z at c.share_factors-k.ensures.factors))
    c.named_row.ensures.ok

pub returns-clause-kept : goal.returns-clause-kept
returns-clause-kept c = ok_implies c.named_row.result _ IsKeptRow (λ row e. ok_of c.combine_but.result row IsKeptRow e c.combine_but.ensures.kept) c.named_row.ensures.ok

pub returns-clause-err : goal.returns-clause-err
returns-clause-err c =
    let n : SFits w64 c.args.count = c.ranges.count in
    let t : SFits w64 c.args.times = c.ranges.times in
    let o : SFits w64 c.entry-own.result = search rules in
    let l : SFits w64 c.own_of.result = search rules in
    let k : SFits w128 c.share_factors-k.result.k = search rules in
    let m : SFits w128 c.share_factors-k.result.n = search rules in
    err_all c.named_row.result _ (IsShareStop (lists_of c.args.table.now) c.args.old.now c.args.line c.args.count c.args.times c.args.stop)
    (λ stop h. elim h [
      | inl e ↦ inl e
      | inr (e, made) ↦ inr (
        e,
        unfit_share (lists_of c.args.table.now) c.args.old.now c.row.result.now c.args.line c.args.count c.args.times c.entry-own.result c.own_of.result c.share_factors-k.result _
            (simp to_z-of_z at (err_of c.combine_but.result made.0 _ made.1 c.combine_but.ensures.unfit made.2)) c.from-2.ensures refl (read_row c.args.table.now.matrix.rows c.args.line c.row.result.now c.row.ensures.value)
            (c.entry-own.ensures.value ∙ ap (λ (w : ℕ). coefficient w c.args.old.now) c.from.ensures ∙ ap (λ (slot : Slot). coefficient slot.home c.args.old.now) c.slot_at-home.ensures) c.own_of.ensures.value (simp to_z-of_z at c.share_factors-k.ensures.factors),
      )
    ])
    c.named_row.ensures.err
