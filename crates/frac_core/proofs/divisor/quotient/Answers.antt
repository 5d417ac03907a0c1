use Rattle.std.proofs.Common.{◌∙◌, ap, ◌*ℤ◌, ℤ}
use Rattle.std.specs.Int.{w128}
use Rattle.std.proofs.lemmas.Int.{quot_is, quot_fits}
use Rattle.frac_core.proofs.divisor.quotient.Goals as goal
use Rattle.frac_core.proofs.Quotients.{exact_quotient}

pub returns : goal.returns
returns c =
    ap (λ (z : ℤ). c.args.divisor *ℤ z) (quot_is w128 c.args.number c.args.divisor c.ranges.number c.ranges.divisor (quot_fits w128 c.args.number c.args.divisor c.ranges.number c.requires.above))
    ∙ exact_quotient c.args.number c.args.divisor c.requires.above c.requires.divides
