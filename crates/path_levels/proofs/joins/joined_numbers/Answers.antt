use Rattle.std.proofs.Common.{◌<ℤ◌, ℤ, pos, sym, subst}
use Rattle.path_levels.proofs.joins.joined_numbers.Goals as goal
use Rattle.frac_core.proofs.Results.{ok_implies}
use Rattle.frac_core.proofs.Numbers.{product-up as positive_product}

pub returns-in-Some-clause-above : goal.returns-in-Some-clause-above
returns-in-Some-clause-above c =
    ok_implies c.with_sum.result _ (λ w. pos 0 <ℤ w.own)
    (λ w e. subst (λ (z : ℤ). pos 0 <ℤ z) (sym e) (positive_product c.in-Some.inside.sum.own c.args.old.now.own (rw c.in-Some.is at c.requires.kept).above c.requires.old.own_above))
    c.with_sum.ensures.own
