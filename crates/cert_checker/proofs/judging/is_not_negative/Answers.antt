use Rattle.std.proofs.Common.{◌∙◌, sym, get_or}
use Rattle.problem_core.specs.Layout.{lines}
use Rattle.cert_checker.proofs.Certificates.Wholes.{negative-under, negative-over, not-Negative, not-true, true-not}
use Rattle.cert_checker.proofs.judging.is_not_negative.Goals as goal
use Rattle.frac_core.proofs.Bools.{false-not-true as false-true}

pub returns-then-is_below : goal.returns-then-is_below
returns-then-is_below c = λ m seen known fronts d. (
  λ h. absurd (false-true h),
  λ h. absurd (negative-under m (get_or (lines c.args.p.now) c.args.at d) c.whole-whole.result (c.whole-whole.ensures m seen known fronts d) (sym c.is_below.ensures ∙ c.if-is_below.true) h),
)

pub returns : goal.returns
returns c = λ m seen known fronts d. (
  λ h. not-Negative m (get_or (lines c.args.p.now) c.args.at d) c.whole-whole.result (c.whole-whole.ensures m seen known fronts d) (sym c.is_below.ensures ∙ c.if-is_below.false) (sym c.is_below-2.ensures ∙ not-true c.is_below-2.result h),
  λ h. true-not c.is_below-2.result (λ e. negative-over m (get_or (lines c.args.p.now) c.args.at d) c.whole-whole.result (c.whole-whole.ensures m seen known fronts d) (sym c.is_below-2.ensures ∙ e) h),
)
