use Rattle.std.proofs.Common.{refl, pos, negsuc, subst}
use Rattle.std.proofs.lemmas.Result.{err_from_is_err_and}
use Rattle.frac_core.specs.Fraction.{Fraction, IsRatio, IsUnfitRatio, sum_den, sum_num}
use Rattle.path_lines.proofs.Walking.FirstLines.{row_sum, row_unfit}
use Rattle.path_lines.proofs.first.first_sum.Goals as goal

pub returns-in_err-value-clause-unfit : goal.returns-in_err-value-clause-unfit
returns-in_err-value-clause-unfit c =
    let exit = err_from_is_err_and c.from_residual-in_err-value.result c.from_residual-in_err-value.ensures.1 in
    rw (exit.1, exit.2) (λ same. row_unfit c.args.p.now c.args.r.now c.in_ok-sum.sum.by.items c.in_ok-sum.sum.value c.show_whole.ensures c.requires c.show_row.ensures c.in_ok-sum.ensures.sum
    (subst (λ (f : Fraction). IsUnfitRatio (sum_num c.in_ok-sum.sum.value (negsuc 0) (pos 1) f) (sum_den c.in_ok-sum.sum.value (pos 1) f)) c.constant.ensures c.in_err-value.ensures.unfit))

pub returns-clause-sum : goal.returns-clause-sum
returns-clause-sum c =
    row_sum c.args.p.now c.args.r.now c.in_ok-sum.sum.by.items c.in_ok-sum.sum.value _ c.show_whole.ensures c.requires c.show_row.ensures c.in_ok-sum.ensures.sum refl refl c.in_ok-value.ensures.lowest
    (subst (λ (f : Fraction). IsRatio c.in_ok-value.value (sum_num c.in_ok-sum.sum.value (negsuc 0) (pos 1) f) (sum_den c.in_ok-sum.sum.value (pos 1) f)) c.constant.ensures c.in_ok-value.ensures.value)
