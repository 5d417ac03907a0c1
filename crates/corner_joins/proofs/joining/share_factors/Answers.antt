use Rattle.std.proofs.Common.{rules, SFits, w64}
use Rattle.std.specs.Int.{w128}
use Rattle.std.proofs.lemmas.Int.{to_z-of_z}
use Rattle.corner_joins.proofs.Costs.CostUnits.{share_factors}
use Rattle.corner_joins.proofs.joining.share_factors.Goals as goal

pub returns-clause-factors : goal.returns-clause-factors
returns-clause-factors c =
    let o : SFits w64 c.args.own = c.ranges.own in
    let l : SFits w64 c.args.line_own = c.ranges.line_own in
    let n : SFits w64 c.args.count = c.ranges.count in
    let t : SFits w64 c.args.times = c.ranges.times in
    let d : SFits w64 c.common_divisor-divisor.result = search rules in
    let a : SFits w64 c.over.result = search rules in
    let b : SFits w64 c.over-2.result = search rules in
    let p : SFits w128 c.product.result = search rules in
    let q : SFits w128 c.product-2.result = search rules in
    simp to_z-of_z
    (share_factors c.args.own c.args.line_own c.args.count c.args.times (record { k = c.product.result; n = c.product-2.result }) c.common_divisor-divisor.result c.over.result c.over-2.result
    c.requires.own c.requires.line (simp to_z-of_z at c.common_divisor-divisor.ensures.divisor) (simp to_z-of_z at c.over.ensures.value) (simp to_z-of_z at c.over-2.ensures.value) (simp to_z-of_z at c.product.ensures.value) (simp to_z-of_z at c.product-2.ensures.value))

pub returns-clause-k : goal.returns-clause-k
returns-clause-k c =
    let l : SFits w64 c.args.line_own = c.ranges.line_own in
    let t : SFits w64 c.args.times = c.ranges.times in
    let a : SFits w64 c.over.result = search rules in
    let p : SFits w128 c.product.result = search rules in
    simp to_z-of_z ((simp to_z-of_z at c.product.ensures.factor) ((simp to_z-of_z at c.over.ensures.fits) c.requires.line_fits) c.requires.times)

pub returns-clause-n : goal.returns-clause-n
returns-clause-n c =
    let o : SFits w64 c.args.own = c.ranges.own in
    let n : SFits w64 c.args.count = c.ranges.count in
    let b : SFits w64 c.over-2.result = search rules in
    let q : SFits w128 c.product-2.result = search rules in
    simp to_z-of_z ((simp to_z-of_z at c.product-2.ensures.factor) ((simp to_z-of_z at c.over-2.ensures.fits) c.requires.own_fits) c.requires.count)
