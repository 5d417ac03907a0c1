use Rattle.std.proofs.Common.{◌≡◌, ◌*ℤ◌, unsigned_abs, SFits}
use Rattle.std.specs.Int.{w128, IsGcd}
use Rattle.std.proofs.lemmas.Int.{to_z-of_z}
use Rattle.path_levels.proofs.Exchanges.MovedValues.{lowest_part_is}
use Rattle.path_levels.proofs.moved.lowest_part.Goals as goal

pub quotient-requires-clause-divides : goal.quotient-requires-clause-divides
quotient-requires-clause-divides c =
    let num : SFits w128 c.args.num = c.ranges.num in
    let den : SFits w128 c.args.den = c.ranges.den in
    let divisor : SFits w128 c.common-divisor.result = record { sfits = c.common-divisor.type_inv } in
    let gcd : IsGcd (unsigned_abs c.args.num) (unsigned_abs c.args.den) (unsigned_abs c.common-divisor.result) = simp to_z-of_z at c.common-divisor.ensures.gcd in
    simp to_z-of_z gcd.0

pub quotient-requires-2-clause-divides : goal.quotient-requires-2-clause-divides
quotient-requires-2-clause-divides c =
    let num : SFits w128 c.args.num = c.ranges.num in
    let den : SFits w128 c.args.den = c.ranges.den in
    let divisor : SFits w128 c.common-divisor.result = record { sfits = c.common-divisor.type_inv } in
    let gcd : IsGcd (unsigned_abs c.args.num) (unsigned_abs c.args.den) (unsigned_abs c.common-divisor.result) = simp to_z-of_z at c.common-divisor.ensures.gcd in
    simp to_z-of_z gcd.1

pub returns : goal.returns
returns c =
    let num : SFits w128 c.args.num = c.ranges.num in
    let den : SFits w128 c.args.den = c.ranges.den in
    let divisor : SFits w128 c.common-divisor.result = record { sfits = c.common-divisor.type_inv } in
    let gcd : IsGcd (unsigned_abs c.args.num) (unsigned_abs c.args.den) (unsigned_abs c.common-divisor.result) = simp to_z-of_z at c.common-divisor.ensures.gcd in
    let first : SFits w128 c.quotient.result = record { sfits = c.quotient.type_inv } in
    let second : SFits w128 c.quotient-2.result = record { sfits = c.quotient-2.type_inv } in
    let num_is : c.common-divisor.result *ℤ c.quotient.result ≡ c.args.num = simp to_z-of_z at c.quotient.ensures in
    let den_is : c.common-divisor.result *ℤ c.quotient-2.result ≡ c.args.den = simp to_z-of_z at c.quotient-2.ensures in
    simp to_z-of_z (lowest_part_is c.args.num c.args.den c.common-divisor.result c.quotient.result c.quotient-2.result c.requires c.common-divisor.ensures.above gcd num_is den_is)
