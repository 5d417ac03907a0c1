use Rattle.std.proofs.Common.{rules, ◌≡◌, ◌+ℤ◌, ◌-ℤ◌, true}
use Rattle.frac_core.specs.Fraction.{IsFitting}
use Rattle.problem_core.specs.declared.parts.Side.TheVariants.{Under, Over}
use Rattle.corner_writings.specs.Fitting.{counted}
use Rattle.corner_writings.proofs.levels.fitting.do_costs_fit.Goals as goal
use Rattle.frac_core.proofs.Bools.{not-both as not_both}

pub returns-then-is_fitting-clause-fit : goal.returns-then-is_fitting-clause-fit
returns-then-is_fitting-clause-fit c e =
    let over : IsFitting (counted c.args.line.rel Over c.args.line.size +ℤ c.args.number) = search rules in
    let under : IsFitting (counted c.args.line.rel Under c.args.line.size -ℤ c.args.number) = search rules in
    record { over = over; under = under }

pub returns-then-is_fitting-clause-unfit : goal.returns-then-is_fitting-clause-unfit
returns-then-is_fitting-clause-unfit c e h =
    let under : IsFitting (counted c.args.line.rel Under c.args.line.size -ℤ c.args.number) = h.under in
    let fits : c.is_fitting-then-is_fitting.result ≡ true = search rules in
    not_both c.is_fitting-then-is_fitting.result fits e
