use Rattle.std.proofs.Common.{arith, rules, SFits}
use Rattle.std.specs.Int.{w64}
use Rattle.std.proofs.lemmas.Int.{to_z-of_z}
use Rattle.path_levels.proofs.Counting.CostSizes.{counted_small}
use Rattle.path_levels.proofs.columns.counted.Goals as goal

pub overflow_mul-result : goal.overflow_mul-result
overflow_mul-result c =
    let fits : SFits w64 c.args.units.unit = search rules in
    let small = counted_small c.args.side c.args.units.own _ c.share.result c.args.facts.now c.requires.facts c.requires.units (simp to_z-of_z at c.share.ensures) in
    omega (arith, small)

pub returns-then-facts-place-clause-small : goal.returns-then-facts-place-clause-small
returns-then-facts-place-clause-small c =
    let fits : SFits w64 c.args.units.unit = search rules in
    let share = simp to_z-of_z at c.share.ensures in
    counted_small c.args.side c.args.units.own _ c.share.result c.args.facts.now c.requires.facts c.requires.units share
