use Rattle.std.proofs.Common.{◌≡◌, ◌*ℤ◌, pos, arith, ap, ◌∙◌, SFits}
use Rattle.std.specs.Int.{w128}
use Rattle.std.proofs.lemmas.Int.{to_z-of_z, to_z_pos}
use Rattle.frac_core.proofs.Integers.{mul_assoc_ℤ}
use Rattle.cert_checker.proofs.Sizes.{share-fits, share-size}
use Rattle.cert_checker.proofs.refuting.scaled.Goals as goal

pub returns-clause-value : goal.returns-clause-value
returns-clause-value c =
    let value : c.product.result ≡ c.args.times *ℤ c.args.num = simp (to_z-of_z, c.ranges.times, c.ranges.num) at c.product.ensures.value in
    let fits : SFits w128 c.product.result = record { sfits = c.product.type_inv } in
    let whole : SFits w128 (c.product.result *ℤ pos c.args.share) = share-fits c.product.result c.args.share c.product.ensures.small c.requires.share in
    let cast = to_z_pos w128 c.args.share (omega (arith, c.requires.share)) in
    rw cast (simp to_z-of_z (ap (λ z. z *ℤ pos c.args.share) value ∙ mul_assoc_ℤ c.args.times c.args.num (pos c.args.share)))

pub returns-clause-small : goal.returns-clause-small
returns-clause-small c =
    let fits : SFits w128 c.product.result = record { sfits = c.product.type_inv } in
    let whole : SFits w128 (c.product.result *ℤ pos c.args.share) = share-fits c.product.result c.args.share c.product.ensures.small c.requires.share in
    let cast = to_z_pos w128 c.args.share (omega (arith, c.requires.share)) in
    rw cast (simp to_z-of_z (share-size c.product.result c.args.share c.product.ensures.small c.requires.share))
