use Rattle.problem_core.specs.Layout.{gap, line_of_row}
use Rattle.cert_checker.proofs.Certificates.Valuing.{is-met}
use Rattle.cert_checker.proofs.valued.holds.Goals as goal

pub returns : goal.returns
returns c = λ x gives.
    let both = is-met c.args.row.now.rel (gap x (line_of_row c.args.row.now)) c.row_sign.result c.is_met.result (c.row_sign.ensures x gives) (rw c.rel.ensures at c.is_met.ensures) in
    (λ h e. both.0 h, λ h. both.1 (h (rw c.rank.ensures at c.if-rank-ne-REQUIRED.false)))
