use Rattle.std.proofs.Common.{refl, ℕ}
use Rattle.frac_core.specs.Fraction.{Fraction}
use Rattle.problem_core.specs.Layout.{HasStay}
use Rattle.cert_checker.proofs.Certificates.Valuing.{all-item}
use Rattle.cert_checker.proofs.valued.have_stays.Goals as goal
use Rattle.frac_core.proofs.Bools.{false-not-true as false-true}
use Rattle.frac_core.proofs.Lists.{all-whole, all-more}

pub loop-attr-preserved : goal.loop-attr-preserved
loop-attr-preserved c =
    all-more (λ (v : ℕ × Fraction). HasStay c.args.stays.now v.0) c.args.values.now c.loop-attr.attr-index c.loop-attr-item.result (rw c.pairs-attr-items.ensures at c.loop-attr-test.true) (rw c.pairs-attr-items.ensures at c.loop-attr-item.is) c.loop-attr.invariant (c.has_stay.ensures.0 c.if-not-has_stay.false)

pub returns-then-not-has_stay : goal.returns-then-not-has_stay
returns-then-not-has_stay c = (
  λ h. absurd (false-true h),
  λ all. c.if-not-has_stay.ensures.1 (all-item (λ (v : ℕ × Fraction). HasStay c.args.stays.now v.0) c.args.values.now c.loop-attr.attr-index c.loop-attr-item.result (rw c.pairs-attr-items.ensures at c.loop-attr-test.true) (rw c.pairs-attr-items.ensures at c.loop-attr-item.is) all),
)

pub returns : goal.returns
returns c = (
  λ h. all-whole (λ (v : ℕ × Fraction). HasStay c.args.stays.now v.0) c.args.values.now c.loop-attr.attr-index (rw c.pairs-attr-items.ensures at c.loop-attr-test.false) c.loop-attr.invariant,
  λ h. refl,
)
