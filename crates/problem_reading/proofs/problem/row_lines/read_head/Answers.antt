use Rattle.std.proofs.Common.{rules, ◌∷◌, decimal}
use Rattle.frac_core.specs.Text.{fraction_text}
use Rattle.problem_core.specs.Layout.{rel_word}
use Rattle.problem_reading.proofs.problem.row_lines.read_head.Goals as goal

pub returns-in_err-weight-clause-none : goal.returns-in_err-weight-clause-none
returns-in_err-weight-clause-none c = rw c.from_residual-in_err-weight.ensures (λ h more is all.
    let first = c.if-not-next_is.ensures.yes (search rules) in
    c.in_err-weight.ensures.none h.weight (rel_word h.rel ∷ decimal h.scale ∷ fraction_text h.constant ∷ more) is.weight_above is.weight
    (cc (first, c.in_ok-id.ensures.some.2, c.in_ok-rank.ensures.some.2)))

pub returns-in_err-scale-clause-none : goal.returns-in_err-scale-clause-none
returns-in_err-scale-clause-none c = rw c.from_residual-in_err-scale.ensures (λ h more is all.
    let first = c.if-not-next_is.ensures.yes (search rules) in
    c.in_err-scale.ensures.none h.scale (fraction_text h.constant ∷ more) is.scale_above is.scale
    (cc (first, c.in_ok-id.ensures.some.2, c.in_ok-rank.ensures.some.2, c.in_ok-weight.ensures.some.2, c.in_ok-rel.ensures.some)))
