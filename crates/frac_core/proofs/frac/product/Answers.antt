use Rattle.std.proofs.Common.{◌≡◌, ◌*ℤ◌, SFits}
use Rattle.std.specs.Int.{w128}
use Rattle.std.proofs.lemmas.Int.{to_z-of_z}
use Rattle.frac_core.proofs.Products.{triple_size, triple_fits, pair_fits}
use Rattle.frac_core.proofs.frac.product.Goals as goal

pub overflow_mul-result-2 : goal.overflow_mul-result-2
overflow_mul-result-2 c =
    let x_is : c.from.result ≡ c.args.x = simp (to_z-of_z, c.ranges.x) at c.from.ensures in
    let y_is : c.from-2.result ≡ c.args.y = simp (to_z-of_z, c.ranges.y) at c.from-2.ensures in
    let z_is : c.from-3.result ≡ c.args.z = simp (to_z-of_z, c.ranges.z) at c.from-3.ensures in
    let x_fits : SFits w128 c.from.result = record { sfits = c.from.type_inv } in
    let y_fits : SFits w128 c.from-2.result = record { sfits = c.from-2.type_inv } in
    let z_fits : SFits w128 c.from-3.result = record { sfits = c.from-3.type_inv } in
    let inner : SFits w128 (c.from-2.result *ℤ c.from-3.result) = rw (y_is, z_is) (pair_fits c.args.y c.args.z c.requires.y c.requires.z) in
    simp to_z-of_z (rw (x_is, y_is, z_is) (triple_fits c.args.x c.args.y c.args.z c.requires.x c.requires.y c.requires.z))

pub returns-clause-value : goal.returns-clause-value
returns-clause-value c =
    let x_is : c.from.result ≡ c.args.x = simp (to_z-of_z, c.ranges.x) at c.from.ensures in
    let y_is : c.from-2.result ≡ c.args.y = simp (to_z-of_z, c.ranges.y) at c.from-2.ensures in
    let z_is : c.from-3.result ≡ c.args.z = simp (to_z-of_z, c.ranges.z) at c.from-3.ensures in
    let x_fits : SFits w128 c.from.result = record { sfits = c.from.type_inv } in
    let y_fits : SFits w128 c.from-2.result = record { sfits = c.from-2.type_inv } in
    let z_fits : SFits w128 c.from-3.result = record { sfits = c.from-3.type_inv } in
    let inner : SFits w128 (c.from-2.result *ℤ c.from-3.result) = rw (y_is, z_is) (pair_fits c.args.y c.args.z c.requires.y c.requires.z) in
    let outer : SFits w128 (c.from.result *ℤ (c.from-2.result *ℤ c.from-3.result)) =
    rw (x_is, y_is, z_is) (triple_fits c.args.x c.args.y c.args.z c.requires.x c.requires.y c.requires.z) in
    simp to_z-of_z (rw (x_is, y_is, z_is))

pub returns-clause-small : goal.returns-clause-small
returns-clause-small c =
    rw (returns-clause-value c) (triple_size c.args.x c.args.y c.args.z c.requires.x c.requires.y c.requires.z)
