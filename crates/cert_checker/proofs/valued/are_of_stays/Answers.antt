use Rattle.cert_checker.proofs.valued.are_of_stays.Goals as goal
use Rattle.frac_core.proofs.Bools.{false-not-true as false-true}

pub returns-then-not-have_values : goal.returns-then-not-have_values
returns-then-not-have_values c = (
  λ h. absurd (false-true h),
  λ are. c.if-not-have_values.ensures.1 (rw c.stays-stays.ensures are.valued),
)

pub returns : goal.returns
returns c = (
  λ h. record { valued = rw (← c.stays-stays.ensures) (c.have_values.ensures.0 c.if-not-have_values.false); held = rw (← c.stays-stays.ensures) (c.have_stays.ensures.0 h) },
  λ are. c.have_stays.ensures.1 (rw c.stays-stays.ensures are.held),
)
