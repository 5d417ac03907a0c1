use Rattle.std.proofs.Common.{◌∙◌, ◌*ℤ◌, ℤ, ap, arith}
use Rattle.std.specs.Int.{w64}
use Rattle.std.proofs.lemmas.Int.{fits_signed_from_abs, quot_fits, quot_is}
use Rattle.certificates.proofs.shares.share.Goals as goal
use Rattle.frac_core.proofs.Quotients.{exact_quotient}

pub returns-clause-value : goal.returns-clause-value
returns-clause-value c =
    let times = fits_signed_from_abs w64 c.args.times (omega (arith, c.requires.times)) in
    let factor = fits_signed_from_abs w64 c.args.factor (omega (arith, c.requires.factor)) in
    ap (λ (z : ℤ). c.args.factor *ℤ z) (quot_is w64 c.args.times c.args.factor times factor (quot_fits w64 c.args.times c.args.factor times c.requires.above))
    ∙ exact_quotient c.args.times c.args.factor c.requires.above c.requires.divides
