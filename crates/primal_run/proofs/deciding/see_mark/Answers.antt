use Rattle.std.proofs.Common.{◌∙◌, arith, false, inl, inr, sym}
use Rattle.frac_core.proofs.Bools.{not-both as not_both}
use Rattle.primal_run.proofs.deciding.see_mark.Goals as goal

pub returns-then-is_late-clause-seen : goal.returns-then-is_late-clause-seen
returns-then-is_late-clause-seen g c = λ first run among. inr (c.is_late.ensures.yes c.if-is_late.true)

pub returns-then-not-began_with-clause-seen : goal.returns-then-not-began_with-clause-seen
returns-then-not-began_with-clause-seen g c = λ first run among.
    absurd (not_both c.began_with.result (c.began_with.ensures false first run ∙ among) c.if-not-began_with.true)

pub returns-then-is_equal-clause-seen : goal.returns-then-is_equal-clause-seen
returns-then-is_equal-clause-seen g c = λ first run among.
    inl (λ v w h g. sym (c.is_equal.ensures.yes c.if-is_equal.true) ∙ c.count_order-order.ensures v w h g)

pub returns-clause-decider : goal.returns-clause-decider
returns-clause-decider g c =
    record { mark = c.requires.f; order = c.count_order-order.ensures; uneven = c.is_equal.ensures.no c.if-is_equal.false }

pub returns-clause-begun : goal.returns-clause-begun
returns-clause-begun g c = λ first run. sym (c.began_with.ensures false first run) ∙ c.if-not-began_with.false

pub returns-clause-later : goal.returns-clause-later
returns-clause-later g c = c.is_late.ensures.no c.if-is_late.false c.count_order-order.result

pub returns-clause-seen : goal.returns-clause-seen
returns-clause-seen g c = λ first run among. inr (omega (arith))
