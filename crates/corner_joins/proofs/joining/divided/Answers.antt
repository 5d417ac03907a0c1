use Rattle.std.proofs.Common.{rules, [], ◌∷◌, SFits, w64, ◌∙◌, inl, inr, ℕ, pos, ap}
use Rattle.std.specs.Int.{w128}
use Rattle.std.proofs.lemmas.Int.{to_z-of_z}
use Rattle.corner_joins.specs.Additions.CostJoins.{IsInUnit, IsUnitStop}
use Rattle.row_core.specs.Rows.{IsKeptRow, coefficient}
use Rattle.corner_exchange.proofs.Pivots.LineSlots.{err_of, ok_of}
use Rattle.corner_joins.proofs.Costs.CostRows.{unfit_unit, unit_row}
use Rattle.corner_joins.proofs.joining.divided.Goals as goal
use Rattle.frac_core.proofs.Results.{ok_implies, err_implies as err_all}

pub returns-clause-ok : goal.returns-clause-ok
returns-clause-ok c =
    let t : SFits w64 c.args.times = c.ranges.times in
    let o : SFits w64 c.entry.result = search rules in
    let k : SFits w128 c.unit_factors-k.result.k = search rules in
    let m : SFits w128 c.unit_factors-k.result.n = search rules in
    ok_implies c.named_row.result _ (IsInUnit c.args.row.now c.args.l c.args.times)
    (λ row e. unit_row c.args.row.now _ row c.args.l c.entry.result c.args.times c.unit_factors-k.result (simp to_z-of_z at (ok_of c.combine_wide.result row _ e c.combine_wide.ensures.value)) (c.in_ok-level.ensures ∙ ap (λ (w : ℕ). record { col = w; by = pos 1 } ∷ []) c.from-2.ensures)
    (c.entry.ensures.value ∙ ap (λ (w : ℕ). coefficient w c.args.row.now) c.from.ensures) (simp to_z-of_z at c.unit_factors-k.ensures.factors))
    c.named_row.ensures.ok

pub returns-clause-kept : goal.returns-clause-kept
returns-clause-kept c = ok_implies c.named_row.result _ IsKeptRow (λ row e. ok_of c.combine_wide.result row IsKeptRow e c.combine_wide.ensures.kept) c.named_row.ensures.ok

pub returns-clause-err : goal.returns-clause-err
returns-clause-err c =
    let t : SFits w64 c.args.times = c.ranges.times in
    let o : SFits w64 c.entry.result = search rules in
    let k : SFits w128 c.unit_factors-k.result.k = search rules in
    let m : SFits w128 c.unit_factors-k.result.n = search rules in
    err_all c.named_row.result _ (IsUnitStop c.args.row.now c.args.l c.args.times c.args.stop)
    (λ stop h. elim h [
      | inl e ↦ inl e
      | inr (e, made) ↦ inr (
        e,
        unfit_unit c.args.row.now _ c.args.l c.entry.result c.args.times c.unit_factors-k.result (simp to_z-of_z at (err_of c.combine_wide.result made.0 _ made.1 c.combine_wide.ensures.unfit made.2)) (c.in_ok-level.ensures ∙ ap (λ (w : ℕ). record { col = w; by = pos 1 } ∷ []) c.from-2.ensures)
            (c.entry.ensures.value ∙ ap (λ (w : ℕ). coefficient w c.args.row.now) c.from.ensures) (simp to_z-of_z at c.unit_factors-k.ensures.factors),
      )
    ])
    c.named_row.ensures.err
