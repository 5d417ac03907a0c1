use Rattle.std.proofs.Common.{rules, SFits, w64, ◌∙◌, ◌<ℤ◌, pos, refl, sym, subst, ap, ℤ}
use Rattle.std.proofs.lemmas.Int.{to_z-of_z}
use Rattle.row_core.specs.Rows.{IsKeptRow}
use Rattle.row_core.proofs.Lowest.{reduced_same, unfit_same}
use Rattle.corner_joins.specs.Additions.RowSums.{HasTermFactors, IsTermRow}
use Rattle.corner_table.specs.Tables.{entry, lists_of, row_at}
use Rattle.corner_exchange.proofs.Pivots.LineSlots.{read_row}
use Rattle.corner_joins.proofs.Additions.RowTerms.{attr_above, factors_of, patched_same}
use Rattle.corner_joins.proofs.joining.more_row.Goals as goal
use Rattle.frac_core.proofs.Lists.{ok-both as ok_both}
use Rattle.frac_core.proofs.Results.{err_implies as err_all}

pub common_factors-factors-requires-clause-other : goal.common_factors-factors-requires-clause-other
common_factors-factors-requires-clause-other c =
    let own : SFits w64 c.own_of.result = search rules in
    simp to_z-of_z (subst (λ (z : ℤ). pos 0 <ℤ z) (ap (λ n. entry (lists_of c.args.table.now) n n) (sym c.attr_slot-a.ensures.value) ∙ sym c.own_of.ensures.value)
    (attr_above (lists_of c.args.table.now) c.args.term.attr c.requires.kept c.requires.attr))

factors : (c : goal.After-combine_but) → HasTermFactors (lists_of c.args.table.now) c.args.at c.args.sum.now c.args.term c.common_factors-factors.result
factors c =
    let own : SFits w64 c.own_of.result = search rules in
    let e : SFits w64 c.entry.result = search rules in
    let by : SFits w64 c.args.term.by = search rules in
    factors_of (lists_of c.args.table.now) c.args.at c.args.sum.now c.args.term c.common_factors-factors.result c.entry.result c.own_of.result c.from.result c.attr_slot-a.result
    c.entry.ensures.value c.from.ensures c.own_of.ensures.value c.attr_slot-a.ensures.value (simp to_z-of_z at c.common_factors-factors.ensures.factors)

pub returns-clause-value : goal.returns-clause-value
returns-clause-value c =
    ok_both c.combine_but.result _ IsKeptRow (IsTermRow (lists_of c.args.table.now) c.args.at c.args.sum.now c.args.term)
    (λ row red kept. (
      kept,
      (
        c.common_factors-factors.result,
        factors c,
        reduced_same row _ _ (patched_same (lists_of c.args.table.now) c.args.sum.now c.row.result.now c.args.term c.common_factors-factors.result _ (c.from-2.ensures ∙ c.attr_slot-a.ensures.value) refl
            (sym (read_row c.args.table.now.matrix.rows c.attr_slot-a.result c.row.result.now c.row.ensures.value) ∙ ap (row_at (lists_of c.args.table.now)) c.attr_slot-a.ensures.value)) red,
      ),
    ))
    c.combine_but.ensures.value c.combine_but.ensures.kept

pub returns-clause-unfit : goal.returns-clause-unfit
returns-clause-unfit c =
    err_all c.combine_but.result _ _
    (λ stop h e. (
      c.common_factors-factors.result,
      factors c,
      unfit_same _ _ (patched_same (lists_of c.args.table.now) c.args.sum.now c.row.result.now c.args.term c.common_factors-factors.result _ (c.from-2.ensures ∙ c.attr_slot-a.ensures.value) refl
          (sym (read_row c.args.table.now.matrix.rows c.attr_slot-a.result c.row.result.now c.row.ensures.value) ∙ ap (row_at (lists_of c.args.table.now)) c.attr_slot-a.ensures.value)) (h e),
    ))
    c.combine_but.ensures.unfit
