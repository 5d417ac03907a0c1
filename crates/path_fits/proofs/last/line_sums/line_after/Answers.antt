use Rattle.std.proofs.Common.{ℕ, sym, subst}
use Rattle.std.proofs.lemmas.Result.{err_from_is_err_and}
use Rattle.corner_lines.specs.LineEquations.{deviation}
use Rattle.path_lines.specs.Exchanges.Pivots.{next_marks}
use Rattle.path_lines.specs.Tables.{name_at}
use Rattle.path_fits.specs.Sums.{IsSideAt}
use Rattle.path_levels.specs.Exchanges.Pivots.{IsSizedPivot}
use Rattle.path_fits.proofs.LastCorner.QuantitiesAfter.{line_sum_is, line_unfit_after}
use Rattle.path_fits.proofs.last.line_sums.line_after.Goals as goal

pub returns-in_default-clause-line : goal.returns-in_default-clause-line
returns-in_default-clause-line c = λ p marks is count within line.
    subst (IsSideAt (next_marks p c.args.pivot.now marks) (name_at p c.args.line.at)) c.in_default.is (c.side_after.ensures p marks is.there is.exchange is.sized.enter_at is.sized.leave_at within line)

pub next_sum-requires-clause-pivot : goal.next_sum-requires-clause-pivot
next_sum-requires-clause-pivot c = subst (λ (n : ℕ). IsSizedPivot n c.args.pivot.now) (sym c.in_ok-before.ensures.sized.count_is) c.requires.pivot

pub returns-in_err-sum-clause-unfit : goal.returns-in_err-sum-clause-unfit
returns-in_err-sum-clause-unfit c =
    let exit = err_from_is_err_and c.from_residual-in_err-sum.result c.from_residual-in_err-sum.ensures.1 in
    rw (exit.1, exit.2) (λ same p marks is count within line.
    line_unfit_after p marks c.args.pivot.now (name_at p c.args.line.at) c.in-Some.side is
    (subst (IsSideAt (next_marks p c.args.pivot.now marks) (name_at p c.args.line.at)) c.in-Some.is (c.side_after.ensures p marks is.there is.exchange is.sized.enter_at is.sized.leave_at within line))
    (c.in_err-sum.ensures.unfit same p marks (deviation (name_at p c.args.line.at)) is (c.in_ok-before.ensures.sum p marks is.there count within line)))

pub returns-clause-line : goal.returns-clause-line
returns-clause-line c = λ p marks is count within line. (
  subst (IsSideAt (next_marks p c.args.pivot.now marks) (name_at p c.args.line.at)) c.in-Some.is (c.side_after.ensures p marks is.there is.exchange is.sized.enter_at is.sized.leave_at within line),
  line_sum_is p (next_marks p c.args.pivot.now marks) (name_at p c.args.line.at) c.in_ok-sum.sum (c.in_ok-sum.ensures.next p marks (deviation (name_at p c.args.line.at)) is (c.in_ok-before.ensures.sum p marks is.there count within line)),
)
