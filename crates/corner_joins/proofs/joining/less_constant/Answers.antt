use Rattle.std.proofs.Common.{refl, ap, length}
use Rattle.frac_core.specs.Fraction.{IsKept}
use Rattle.problem_core.specs.declared.parts.RowName.TheVariants.{Held}
use Rattle.corner_lines.specs.LineEquations.{deviation}
use Rattle.corner_joins.specs.Additions.RowSums.{IsSumRow}
use Rattle.corner_joins.specs.Additions.Parts.{IsTermsStop}
use Rattle.corner_table.specs.Tables.{lists_of}
use Rattle.corner_joins.proofs.Additions.RowTerms.{constant_unfit, less_value, stop_of}
use Rattle.corner_joins.proofs.joining.less_constant.Goals as goal
use Rattle.std.proofs.Common.{◌∙◌, ◌+◌}
use Rattle.frac_core.proofs.Lists.{ok-both as ok_both}
use Rattle.frac_core.proofs.Results.{err_implies as err_all}

pub returns-clause-value : goal.returns-clause-value
returns-clause-value c =
    ok_both c.named_sum.result _ IsKept (λ value. IsSumRow (lists_of c.args.table.now) c.args.row.now (deviation (Held c.args.row.now.id)) (record { row = c.args.sum.now.row; value = value }))
    (λ f ratio kept. less_value (lists_of c.args.table.now) c.args.row.now c.args.sum.now f c.constant.result _ _ c.requires.row.whole c.requires.sum refl refl c.constant.ensures kept ratio)
    c.named_sum.ensures.ok c.named_sum.ensures.kept

pub returns-clause-stop : goal.returns-clause-stop
returns-clause-stop c =
    err_all c.named_sum.result _ (IsTermsStop (lists_of c.args.table.now) c.args.row.now)
    (λ e h. stop_of (lists_of c.args.table.now) c.args.row.now e _ _ _ (h.0 ∙ c.terms_stop-stop.ensures) c.id.ensures (ap (λ ts. length ts + 1) c.terms.ensures)
    (constant_unfit (lists_of c.args.table.now) c.args.row.now c.args.sum.now c.constant.result _ _ c.requires.row.kept c.requires.row.whole c.requires.sum refl refl c.constant.ensures h.1))
    c.named_sum.ensures.err
