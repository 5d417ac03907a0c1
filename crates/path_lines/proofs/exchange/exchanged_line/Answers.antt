use Rattle.std.proofs.Common.{ℕ, None, Some, sym, subst}
use Rattle.std.proofs.lemmas.Result.{err_from_is_err_and}
use Rattle.problem_core.specs.Corners.{IsIn, place_of}
use Rattle.corner_lines.specs.LineEquations.{IsOutsideLine}
use Rattle.path_lines.specs.Exchanges.Pivots.{next_marks}
use Rattle.path_lines.specs.Tables.{IsLineAt, IsSumOf, name_at, swap_of}
use Rattle.path_lines.proofs.Exchanges.NextLines.{leaving_outside, still_inside, still_outside}
use Rattle.path_lines.proofs.exchange.exchanged_line.Goals as goal
use Rattle.problem_core.proofs.Marks.{entered-in as enter_in}

pub returns-in_err-sum-clause-unfit : goal.returns-in_err-sum-clause-unfit
returns-in_err-sum-clause-unfit c =
    let exit = err_from_is_err_and c.from_residual.result c.from_residual.ensures.1 in
    rw (exit.1, exit.2) (λ same p at is entered within line. c.in_err-sum.ensures.unfit same p at is entered)

pub returns-then-at-pivot-clause-line : goal.returns-then-at-pivot-clause-line
returns-then-at-pivot-clause-line c = λ p at is entered within line. (
  subst (λ (k : ℕ). IsIn (place_of (name_at p k) c.args.pivot.now.step.enter.side) (next_marks p c.args.pivot.now at)) (sym c.if-at-pivot.true) (enter_in (swap_of p c.args.pivot.now.step) at is.exchange.leaves),
  subst (λ (k : ℕ). IsSumOf p (next_marks p c.args.pivot.now at) (name_at p k) c.in_ok-sum.sum) (sym c.if-at-pivot.true) (c.in_ok-sum.ensures.sum p at is entered),
)

pub returns-then-at-pivot-2-clause-line : goal.returns-then-at-pivot-2-clause-line
returns-then-at-pivot-2-clause-line c = λ p at is entered within line.
    subst (λ (k : ℕ). IsOutsideLine (next_marks p c.args.pivot.now at) (name_at p k)) (sym c.if-at-pivot-2.true) (leaving_outside p at c.args.pivot.now is)

pub returns-in_default-clause-line : goal.returns-in_default-clause-line
returns-in_default-clause-line c = λ p at is entered within line.
    let out : IsLineAt p at (name_at p c.args.at) None = subst (IsLineAt p at (name_at p c.args.at)) c.in_default.is line in
    still_outside p at c.args.pivot.now c.args.at is within (λ same. c.if-at-pivot.false same) out

pub returns-in_err-next-clause-unfit : goal.returns-in_err-next-clause-unfit
returns-in_err-next-clause-unfit c =
    let exit = err_from_is_err_and c.from_residual-in_err-next.result c.from_residual-in_err-next.ensures.1 in
    rw (exit.1, exit.2) (λ same p at is entered within line.
    let kept : IsLineAt p at (name_at p c.args.at) (Some c.in-Some.inside) = subst (IsLineAt p at (name_at p c.args.at)) c.in-Some.is line in
    c.in_err-next.ensures.unfit same p at (record { row = name_at p c.args.at; side = c.in-Some.inside.side }) is entered kept.1
    (still_inside p at c.args.pivot.now c.args.at c.in-Some.inside.side is within (λ e. c.if-at-pivot-2.false e) kept.0))

pub returns-clause-line : goal.returns-clause-line
returns-clause-line c = λ p at is entered within line.
    let kept : IsLineAt p at (name_at p c.args.at) (Some c.in-Some.inside) = subst (IsLineAt p at (name_at p c.args.at)) c.in-Some.is line in (
      still_inside p at c.args.pivot.now c.args.at c.in-Some.inside.side is within (λ e. c.if-at-pivot-2.false e) kept.0,
      c.in_ok-next.ensures.sum p at (name_at p c.args.at) is entered kept.1,
    )
