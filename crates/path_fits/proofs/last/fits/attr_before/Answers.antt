use Rattle.std.proofs.Common.{ℕ, None, Some, subst}
use Rattle.std.proofs.lemmas.Result.{err_from_is_err_and}
use Rattle.path_lines.specs.Tables.{IsLineAt, name_at}
use Rattle.path_fits.specs.Sums.{IsUnitSum}
use Rattle.path_fits.proofs.LastCorner.QuantitiesAfter.{unit_equation, unit_sized}
use Rattle.path_fits.proofs.LastCorner.AttrsAfter.{inside_attr_sum, inside_attr_unfit, outside_attr, stay_within}
use Rattle.path_fits.proofs.last.fits.attr_before.Goals as goal

pub returns-in_err-value-in-Some-clause-unfit : goal.returns-in_err-value-in-Some-clause-unfit
returns-in_err-value-in-Some-clause-unfit c =
    let exit = err_from_is_err_and c.from_residual.result c.from_residual.ensures.1 in
    rw (exit.1, exit.2) (λ same p marks attr there count is line.
    let kept : IsLineAt p marks (name_at p c.args.line.at) (Some c.in-Some.inside) = subst (IsLineAt p marks (name_at p c.args.line.at)) c.in-Some.is line in
    inside_attr_unfit p marks attr c.args.line.at c.args.target c.in-Some.inside there is kept c.in_err-value-in-Some.ensures.unfit)

pub returns-in_ok-with_value-in-Some-clause-attr : goal.returns-in_ok-with_value-in-Some-clause-attr
returns-in_ok-with_value-in-Some-clause-attr c = λ p marks attr there count is line.
    let kept : IsLineAt p marks (name_at p c.args.line.at) (Some c.in-Some.inside) = subst (IsLineAt p marks (name_at p c.args.line.at)) c.in-Some.is line in
    inside_attr_sum p marks attr c.args.line.at c.args.target c.in_ok-value-in-Some.value c.in-Some.inside c.in_ok-with_value-in-Some.field-0 there is kept c.in_ok-value-in-Some.ensures.lowest.above c.in_ok-value-in-Some.ensures.value c.in_ok-with_value-in-Some.ensures.copy

pub returns-in_ok-unit_sum-in-None-clause-sized : goal.returns-in_ok-unit_sum-in-None-clause-sized
returns-in_ok-unit_sum-in-None-clause-sized c = unit_sized c.args.line.count c.args.line.at c.args.target c.in_ok-unit_sum-in-None.field-0 c.in_ok-unit_sum-in-None.ensures

pub returns-in_ok-unit_sum-in-None-clause-attr : goal.returns-in_ok-unit_sum-in-None-clause-attr
returns-in_ok-unit_sum-in-None-clause-attr c = λ p marks attr there count is line.
    let out : IsLineAt p marks (name_at p c.args.line.at) None = subst (IsLineAt p marks (name_at p c.args.line.at)) c.in-None.is line in
    unit_equation p marks c.args.line.at c.in_ok-unit_sum-in-None.field-0 _ c.args.target there (stay_within p attr c.args.line.at c.args.target is) (subst (λ (n : ℕ). IsUnitSum n c.args.line.at c.args.target c.in_ok-unit_sum-in-None.field-0) count c.in_ok-unit_sum-in-None.ensures)
    (outside_attr p marks attr c.args.line.at c.args.target there is out)
