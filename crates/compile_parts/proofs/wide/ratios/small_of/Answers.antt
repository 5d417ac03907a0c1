use Rattle.std.proofs.Common.{◌≡◌, SFits, refl, rules}
use Rattle.std.specs.Int.{w128}
use Rattle.std.proofs.lemmas.Int.{to_z-of_z}
use Rattle.frac_core.specs.Fraction.{IsRatio}
use Rattle.compile_parts.proofs.wide.ratios.small_of.Goals as goal
use Rattle.frac_core.proofs.Fitting.{same-value as same_value}

pub returns-in-Ok-2-clause-none : goal.returns-in-Ok-2-clause-none
returns-in-Ok-2-clause-none c = λ f lowest ratio num_small den_small.
    let num_fits : SFits w128 c.args.r.num = search rules in
    let den_fits : SFits w128 c.args.r.den = search rules in
    let value : IsRatio c.in-Ok.f c.args.r.num c.args.r.den = simp (to_z-of_z, num_fits, den_fits) at c.in-Ok.ensures.value in
    let same : f ≡ c.in-Ok.f = same_value f c.in-Ok.f c.args.r.num c.args.r.den c.requires lowest c.in-Ok.ensures.lowest ratio value in
    c.if-is_small.ensures.no refl (rw same at num_small) (rw same at den_small)
