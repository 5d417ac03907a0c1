use Rattle.std.proofs.Common.{refl}
use Rattle.problem_core.specs.declared.parts.Stay.{Stay}
use Rattle.problem_core.specs.Gaps.{HasValue}
use Rattle.cert_checker.proofs.Certificates.Valuing.{all-item}
use Rattle.cert_checker.proofs.valued.have_values.Goals as goal
use Rattle.frac_core.proofs.Bools.{false-not-true as false-true}
use Rattle.frac_core.proofs.Lists.{all-whole, all-more}

pub loop-stay-preserved : goal.loop-stay-preserved
loop-stay-preserved c =
    all-more (λ (s : Stay). HasValue c.args.values.now s.attr) c.args.stays.now c.loop-stay.stay-index c.stay-item.result c.loop-stay-test.true c.stay-item.is c.loop-stay.invariant (c.has_value.ensures.0 c.if-not-has_value.false)

pub returns-then-not-has_value : goal.returns-then-not-has_value
returns-then-not-has_value c = (
  λ h. absurd (false-true h),
  λ all. c.if-not-has_value.ensures.1 (all-item (λ (s : Stay). HasValue c.args.values.now s.attr) c.args.stays.now c.loop-stay.stay-index c.stay-item.result c.loop-stay-test.true c.stay-item.is all),
)

pub returns : goal.returns
returns c = (
  λ h. all-whole (λ (s : Stay). HasValue c.args.values.now s.attr) c.args.stays.now c.loop-stay.stay-index c.loop-stay-test.false c.loop-stay.invariant,
  λ h. refl,
)
