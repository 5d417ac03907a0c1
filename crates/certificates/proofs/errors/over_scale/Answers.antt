use Rattle.std.proofs.Common.{rules, ◌≡◌, SFits, ℤ, pos, ◌*ℤ◌, ◌<ℤ◌, sym, subst}
use Rattle.std.specs.Int.{w64, w128}
use Rattle.std.proofs.lemmas.Int.{to_z-of_z}
use Rattle.certificates.proofs.errors.over_scale.Goals as goal
use Rattle.frac_core.proofs.Numbers.{product-up as product_above}

pub of-requires-clause-q : goal.of-requires-clause-q
of-requires-clause-q c =
    let d : SFits w64 c.den.result = search rules in
    let q : SFits w128 c.product.result = search rules in
    let value : c.product.result ≡ c.args.scale *ℤ c.den.result = simp (to_z-of_z, c.ranges.scale, d) at c.product.ensures.value in
    simp (to_z-of_z, q) (subst (λ (z : ℤ). pos 0 <ℤ z) (sym value) (product_above c.args.scale c.den.result c.requires.above c.den.ensures.above))
