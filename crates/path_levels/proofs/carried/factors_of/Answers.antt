use Rattle.std.proofs.Common.{◌≡◌, ◌*ℤ◌, SFits}
use Rattle.std.specs.Int.{w64}
use Rattle.std.proofs.lemmas.Int.{to_z-of_z}
use Rattle.path_levels.specs.Exchanges.Carried.{IsCommonOf}
use Rattle.path_levels.proofs.Exchanges.CarriedFacts.{sharing}
use Rattle.path_levels.proofs.carried.factors_of.Goals as goal

pub quotient-requires-clause-divides : goal.quotient-requires-clause-divides
quotient-requires-clause-divides c =
    let size : SFits w64 c.args.size = c.ranges.size in
    let n : SFits w64 c.args.n = c.ranges.n in
    let common : SFits w64 c.common_of-common.result = record { sfits = c.common_of-common.type_inv } in
    let is : IsCommonOf c.args.size c.args.n c.common_of-common.result = simp to_z-of_z at c.common_of-common.ensures in
    simp to_z-of_z is.of_size

pub quotient-requires-2-clause-divides : goal.quotient-requires-2-clause-divides
quotient-requires-2-clause-divides c =
    let size : SFits w64 c.args.size = c.ranges.size in
    let n : SFits w64 c.args.n = c.ranges.n in
    let common : SFits w64 c.common_of-common.result = record { sfits = c.common_of-common.type_inv } in
    let is : IsCommonOf c.args.size c.args.n c.common_of-common.result = simp to_z-of_z at c.common_of-common.ensures in
    simp to_z-of_z is.of_n

pub returns : goal.returns
returns c =
    let size : SFits w64 c.args.size = c.ranges.size in
    let n : SFits w64 c.args.n = c.ranges.n in
    let common : SFits w64 c.common_of-common.result = record { sfits = c.common_of-common.type_inv } in
    let row : SFits w64 c.quotient.result = record { sfits = c.quotient.type_inv } in
    let pivot : SFits w64 c.quotient-2.result = record { sfits = c.quotient-2.type_inv } in
    let is : IsCommonOf c.args.size c.args.n c.common_of-common.result = simp to_z-of_z at c.common_of-common.ensures in
    let first : c.common_of-common.result *ℤ c.quotient.result ≡ c.args.size = simp to_z-of_z at c.quotient.ensures in
    let second : c.common_of-common.result *ℤ c.quotient-2.result ≡ c.args.n = simp to_z-of_z at c.quotient-2.ensures in
    simp to_z-of_z (sharing c.args.size c.args.n c.common_of-common.result c.quotient.result c.quotient-2.result c.requires.above is.above first second)
