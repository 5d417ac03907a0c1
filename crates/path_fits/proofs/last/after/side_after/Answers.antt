use Rattle.std.proofs.Common.{None, Some, subst, sym}
use Rattle.path_lines.specs.Tables.{IsLineAt, name_at}
use Rattle.path_fits.proofs.LastCorner.SumsAfter.{entered, left, stayed_in, stayed_out}
use Rattle.path_fits.proofs.last.after.side_after.Goals as goal

pub returns-then-at-step : goal.returns-then-at-step
returns-then-at-step c = λ p marks there ex enter leave within line. entered p marks c.args.step c.args.at ex c.if-at-step.true

pub returns-then-at-step-2 : goal.returns-then-at-step-2
returns-then-at-step-2 c = λ p marks there ex enter leave within line. left p marks c.args.step c.args.at there ex enter within (λ same. c.if-at-step.false same) c.if-at-step-2.true

pub returns-in_err-inside : goal.returns-in_err-inside
returns-in_err-inside c = rw c.from_residual.ensures (λ p marks there ex enter leave within line.
    let out : IsLineAt p marks (name_at p c.args.at) None = subst (IsLineAt p marks (name_at p c.args.at)) (sym c.in_err-inside.ensures.value) line in
    stayed_out p marks c.args.step c.args.at there enter within (λ same. c.if-at-step.false same) out)

pub returns : goal.returns
returns c = λ p marks there ex enter leave within line.
    let kept : IsLineAt p marks (name_at p c.args.at) (Some c.in_ok-inside.inside.now) = subst (IsLineAt p marks (name_at p c.args.at)) (sym c.in_ok-inside.ensures.value) line in
    stayed_in p marks c.args.step c.args.at c.in_ok-inside.inside.now.side there leave within (λ same. c.if-at-step-2.false same) kept.0
