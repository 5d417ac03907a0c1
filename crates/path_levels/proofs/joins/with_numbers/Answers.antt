use Rattle.std.proofs.Common.{◌∙◌, SFits, arith}
use Rattle.std.specs.Int.{w64, w128}
use Rattle.std.proofs.lemmas.Int.{to_z-of_z}
use Rattle.path_levels.proofs.Joining.JoinShares.{positive_product}
use Rattle.path_levels.proofs.joins.with_numbers.Goals as goal

pub product-requires-clause-small : goal.product-requires-clause-small
product-requires-clause-small c =
    let times : SFits w64 c.args.times = c.ranges.times in
    simp to_z-of_z (omega (arith, c.requires.small))

pub product-requires-clause-other : goal.product-requires-clause-other
product-requires-clause-other c =
    let unit : SFits w64 c.args.unit = c.ranges.unit in
    simp to_z-of_z (omega (arith, c.requires.unit))

pub returns-clause-unit : goal.returns-clause-unit
returns-clause-unit c =
    let times : SFits w64 c.args.times = c.ranges.times in
    let unit : SFits w64 c.args.unit = c.ranges.unit in
    let p : SFits w128 c.product.result = record { sfits = c.product.type_inv } in
    simp to_z-of_z (simp to_z-of_z at c.product.ensures.value ∙ positive_product c.args.times c.args.unit c.requires.times c.requires.above)
