use Rattle.std.proofs.Common.{◌≡◌, ◌*ℤ◌, SFits}
use Rattle.std.specs.Int.{w128}
use Rattle.std.proofs.lemmas.Int.{to_z-of_z}
use Rattle.frac_core.proofs.Products.{pair_fits}
use Rattle.path_lines.proofs.exchange.pair_product.Goals as goal

pub returns-clause-value : goal.returns-clause-value
returns-clause-value c =
    let x_is : c.from.result ≡ c.args.x = simp (to_z-of_z, c.ranges.x) at c.from.ensures in
    let y_is : c.from-2.result ≡ c.args.y = simp (to_z-of_z, c.ranges.y) at c.from-2.ensures in
    let x_fits : SFits w128 c.from.result = record { sfits = c.from.type_inv } in
    let y_fits : SFits w128 c.from-2.result = record { sfits = c.from-2.type_inv } in
    let both : SFits w128 (c.from.result *ℤ c.from-2.result) = rw (x_is, y_is) (pair_fits c.args.x c.args.y c.requires.x c.requires.y) in
    simp to_z-of_z (rw (x_is, y_is))
