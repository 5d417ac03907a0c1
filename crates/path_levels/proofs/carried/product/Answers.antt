use Rattle.std.proofs.Common.{◌≡◌, ◌<◌, ◌^◌, ◌*ℤ◌, SFits, unsigned_abs}
use Rattle.std.specs.Int.{w128}
use Rattle.std.proofs.lemmas.Int.{to_z-of_z}
use Rattle.path_levels.proofs.Exchanges.CarriedFacts.{product_fits, product_size}
use Rattle.frac_core.proofs.Products.{pair_size}
use Rattle.path_levels.proofs.carried.product.Goals as goal

pub returns-clause-value : goal.returns-clause-value
returns-clause-value c =
    let x_is : c.from.result ≡ c.args.small = simp (to_z-of_z, c.ranges.small) at c.from.ensures in
    let y_is : c.from-2.result ≡ c.args.other = simp (to_z-of_z, c.ranges.other) at c.from-2.ensures in
    let x_fits : SFits w128 c.from.result = record { sfits = c.from.type_inv } in
    let y_fits : SFits w128 c.from-2.result = record { sfits = c.from-2.type_inv } in
    let both : SFits w128 (c.from.result *ℤ c.from-2.result) = rw (x_is, y_is) (product_fits c.args.small c.args.other c.requires.small c.requires.other) in
    simp to_z-of_z (rw (x_is, y_is))

pub returns-clause-size : goal.returns-clause-size
returns-clause-size c =
    let x_is : c.from.result ≡ c.args.small = simp (to_z-of_z, c.ranges.small) at c.from.ensures in
    let y_is : c.from-2.result ≡ c.args.other = simp (to_z-of_z, c.ranges.other) at c.from-2.ensures in
    let x_fits : SFits w128 c.from.result = record { sfits = c.from.type_inv } in
    let y_fits : SFits w128 c.from-2.result = record { sfits = c.from-2.type_inv } in
    let both : SFits w128 (c.from.result *ℤ c.from-2.result) = rw (x_is, y_is) (product_fits c.args.small c.args.other c.requires.small c.requires.other) in
    let size : unsigned_abs (c.from.result *ℤ c.from-2.result) < 2 ^ 95 = rw (x_is, y_is) (product_size c.args.small c.args.other c.requires.small c.requires.other) in
    simp to_z-of_z size

pub returns-clause-factor : goal.returns-clause-factor
returns-clause-factor c =
    let x_is : c.from.result ≡ c.args.small = simp (to_z-of_z, c.ranges.small) at c.from.ensures in
    let y_is : c.from-2.result ≡ c.args.other = simp (to_z-of_z, c.ranges.other) at c.from-2.ensures in
    let x_fits : SFits w128 c.from.result = record { sfits = c.from.type_inv } in
    let y_fits : SFits w128 c.from-2.result = record { sfits = c.from-2.type_inv } in
    let both : SFits w128 (c.from.result *ℤ c.from-2.result) = rw (x_is, y_is) (product_fits c.args.small c.args.other c.requires.small c.requires.other) in
    λ fits.
    let size : unsigned_abs (c.from.result *ℤ c.from-2.result) < 2 ^ 84 = rw (x_is, y_is) (pair_size c.args.small c.args.other c.requires.small fits) in
    simp to_z-of_z size
