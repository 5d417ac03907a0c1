use Rattle.std.proofs.Common.{◌≡◌, ◌*ℤ◌, SFits}
use Rattle.std.specs.Int.{w128}
use Rattle.std.proofs.lemmas.Int.{to_z-of_z}
use Rattle.problem_core.proofs.GapFacts.Amounts.{term-size, term-fits}
use Rattle.problem_core.proofs.gaps.product.Goals as goal

pub overflow_mul-result : goal.overflow_mul-result
overflow_mul-result c =
    let by_is : c.from.result ≡ c.args.by = simp (to_z-of_z, c.ranges.by) at c.from.ensures in
    let scaled_is : c.from-2.result ≡ c.args.scaled = simp (to_z-of_z, c.ranges.scaled) at c.from-2.ensures in
    let by_fits : SFits w128 c.from.result = record { sfits = c.from.type_inv } in
    let scaled_fits : SFits w128 c.from-2.result = record { sfits = c.from-2.type_inv } in
    simp to_z-of_z (rw (by_is, scaled_is) (term-fits c.args.by c.args.scaled c.requires.by c.requires.scaled))

pub returns-clause-value : goal.returns-clause-value
returns-clause-value c =
    let by_is : c.from.result ≡ c.args.by = simp (to_z-of_z, c.ranges.by) at c.from.ensures in
    let scaled_is : c.from-2.result ≡ c.args.scaled = simp (to_z-of_z, c.ranges.scaled) at c.from-2.ensures in
    let by_fits : SFits w128 c.from.result = record { sfits = c.from.type_inv } in
    let scaled_fits : SFits w128 c.from-2.result = record { sfits = c.from-2.type_inv } in
    let whole : SFits w128 (c.from.result *ℤ c.from-2.result) = rw (by_is, scaled_is) (term-fits c.args.by c.args.scaled c.requires.by c.requires.scaled) in
    simp to_z-of_z (rw (by_is, scaled_is))

pub returns-clause-small : goal.returns-clause-small
returns-clause-small c =
    rw (returns-clause-value c) (term-size c.args.by c.args.scaled c.requires.by c.requires.scaled)
