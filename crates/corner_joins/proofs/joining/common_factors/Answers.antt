use Rattle.std.proofs.Common.{rules, SFits, w64, ◌∙◌, ◌<ℤ◌, ℤ, pos, sym, subst, unsigned_abs}
use Rattle.std.specs.Int.{w128}
use Rattle.std.proofs.lemmas.Int.{to_z-of_z}
use Rattle.std.proofs.lemmas.Nat.Gcd.{IsGcd-swap}
use Rattle.frac_core.specs.Fraction.{IsFitting}
use Rattle.corner_joins.proofs.Additions.RowTerms.{term_factors}
use Rattle.corner_joins.proofs.Costs.CostUnits.{share_factors}
use Rattle.corner_joins.proofs.Basics.SmallFacts.{one-step}
use Rattle.corner_joins.proofs.joining.common_factors.Goals as goal
use Rattle.corner_lines.proofs.LevelRows.Units.{quotient_above}

pub returns-clause-factors : goal.returns-clause-factors
returns-clause-factors c =
    let o : SFits w64 c.args.own = c.ranges.own in
    let l : SFits w64 c.args.other = c.ranges.other in
    let n : SFits w64 c.args.by = c.ranges.by in
    let d : SFits w64 c.common_divisor-divisor.result = search rules in
    let a : SFits w64 c.over.result = search rules in
    let b : SFits w64 c.over-2.result = search rules in
    let k : SFits w128 c.from.result = search rules in
    let p : SFits w128 c.product.result = search rules in
    simp to_z-of_z
    (term_factors c.args.own c.args.other c.args.by (record { k = c.from.result; n = c.product.result }) c.common_divisor-divisor.result c.over.result c.over-2.result
    c.requires.own c.requires.other c.common_divisor-divisor.ensures.above (simp to_z-of_z at c.common_divisor-divisor.ensures.divisor) (simp to_z-of_z at c.over.ensures.value) (simp to_z-of_z at c.over-2.ensures.value) (simp to_z-of_z at c.from.ensures) (simp to_z-of_z at c.product.ensures.value))

pub returns-clause-share : goal.returns-clause-share
returns-clause-share c =
    let o : SFits w64 c.args.own = c.ranges.own in
    let l : SFits w64 c.args.other = c.ranges.other in
    let n : SFits w64 c.args.by = c.ranges.by in
    let d : SFits w64 c.common_divisor-divisor.result = search rules in
    let a : SFits w64 c.over.result = search rules in
    let b : SFits w64 c.over-2.result = search rules in
    let f : SFits w128 c.from.result = search rules in
    let q : SFits w128 c.product.result = search rules in
    simp to_z-of_z
    (share_factors c.args.own c.args.other c.args.by (pos 1) (record { k = c.from.result; n = c.product.result }) c.common_divisor-divisor.result c.over.result c.over-2.result
    c.requires.own c.requires.other (simp to_z-of_z at c.common_divisor-divisor.ensures.divisor) (simp to_z-of_z at c.over.ensures.value) (simp to_z-of_z at c.over-2.ensures.value) (one-step c.from.result c.over.result (simp to_z-of_z at c.from.ensures)) (simp to_z-of_z at c.product.ensures.value))

pub returns-clause-k : goal.returns-clause-k
returns-clause-k c =
    let l : SFits w64 c.args.other = c.ranges.other in
    let a : SFits w64 c.over.result = search rules in
    let f : SFits w128 c.from.result = search rules in
    simp to_z-of_z (subst (λ (z : ℤ). IsFitting z) (sym (simp to_z-of_z at c.from.ensures)) ((simp to_z-of_z at c.over.ensures.fits) c.requires.other_fits))

pub returns-clause-above : goal.returns-clause-above
returns-clause-above c =
    let o : SFits w64 c.args.own = c.ranges.own in
    let l : SFits w64 c.args.other = c.ranges.other in
    let d : SFits w64 c.common_divisor-divisor.result = search rules in
    let a : SFits w64 c.over.result = search rules in
    let f : SFits w128 c.from.result = search rules in
    simp to_z-of_z
    (subst (λ (z : ℤ). pos 0 <ℤ z) (sym ((simp to_z-of_z at c.from.ensures) ∙ (simp to_z-of_z at c.over.ensures.value)))
    (quotient_above c.args.other c.common_divisor-divisor.result (unsigned_abs c.args.own) (IsGcd-swap (unsigned_abs c.args.own) (unsigned_abs c.args.other) (unsigned_abs c.common_divisor-divisor.result) (simp to_z-of_z at c.common_divisor-divisor.ensures.divisor)) c.requires.other))

pub returns-clause-n : goal.returns-clause-n
returns-clause-n c =
    let o : SFits w64 c.args.own = c.ranges.own in
    let n : SFits w64 c.args.by = c.ranges.by in
    let b : SFits w64 c.over-2.result = search rules in
    let q : SFits w128 c.product.result = search rules in
    simp to_z-of_z ((simp to_z-of_z at c.product.ensures.factor) ((simp to_z-of_z at c.over-2.ensures.fits) c.requires.own_fits) c.requires.by)
