use Rattle.std.proofs.Common.{rules, SFits, w64, ◌∙◌, refl, slice_index_or, pos}
use Rattle.std.proofs.lemmas.Int.{to_z-of_z}
use Rattle.corner_joins.specs.Additions.Parts.{IsTermsStop}
use Rattle.corner_table.specs.Tables.{lists_of}
use Rattle.corner_joins.proofs.Additions.RowTerms.{stop_of, terms_covered, terms_fit, value_unfit}
use Rattle.corner_joins.proofs.joining.term_value.Goals as goal
use Rattle.frac_core.proofs.Results.{err_implies as err_all}

pub attr_slot-requires-clause-attr : goal.attr_slot-requires-clause-attr
attr_slot-requires-clause-attr c = terms_covered (lists_of c.args.table.now) c.args.row.now c.args.i _ c.terms.result.now c.terms.ensures c.requires.row.whole c.requires.sum.within

pub named_sum-requires-clause-n : goal.named_sum-requires-clause-n
named_sum-requires-clause-n c =
    let fits = terms_fit (lists_of c.args.table.now) c.args.row.now c.args.i (record { attr = 0; by = pos 0 }) c.terms.result.now c.terms.ensures c.requires.row.whole c.requires.sum.within in
    let by : SFits w64 (slice_index_or c.terms.result.now c.args.i (record { attr = 0; by = pos 0 })).by = search rules in
    simp to_z-of_z fits

pub returns-clause-stop : goal.returns-clause-stop
returns-clause-stop c =
    let by : SFits w64 (slice_index_or c.terms.result.now c.args.i (record { attr = 0; by = pos 0 })).by = search rules in
    err_all c.named_sum.result _ (IsTermsStop (lists_of c.args.table.now) c.args.row.now)
    (λ e h. stop_of (lists_of c.args.table.now) c.args.row.now e _ _ _ (h.0 ∙ c.terms_stop-stop.ensures) c.id.ensures refl
    (value_unfit (lists_of c.args.table.now) c.args.row.now c.args.i (record { attr = 0; by = pos 0 }) c.args.sum.now c.attr_slot.result c.value_at-attr.result _ _ c.terms.result.now c.requires.row.kept c.requires.row.whole c.requires.sum.within c.requires.sum.is c.terms.ensures
    (to_z-of_z w64 (slice_index_or c.terms.result.now c.args.i (record { attr = 0; by = pos 0 })).by by) refl c.value_at-attr.ensures c.attr_slot.ensures.value h.1))
    c.named_sum.ensures.err
