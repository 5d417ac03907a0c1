use Rattle.std.proofs.Common.{rules, ◌≡◌, refl, SFits, w64, ◌∙◌, ◌<◌, ◌<ℤ◌, ◌-ℤ◌, pos, sym, subst, ℤ, unsigned_abs, ◌^◌}
use Rattle.std.specs.Int.{w128}
use Rattle.std.proofs.lemmas.Int.{to_z-of_z}
use Rattle.frac_core.specs.Fraction.{IsFitting}
use Rattle.std.proofs.lemmas.Nat.Gcd.{IsGcd-swap}
use Rattle.corner_joins.proofs.Costs.CostUnits.{unit_factors, unit_sfits, unit_small}
use Rattle.corner_joins.proofs.joining.unit_factors.Goals as goal
use Rattle.corner_lines.proofs.LevelRows.Units.{quotient_above}

pub returns-clause-factors : goal.returns-clause-factors
returns-clause-factors c =
    let o : SFits w64 c.args.own = c.ranges.own in
    let t : SFits w64 c.args.times = c.ranges.times in
    let d : SFits w64 c.common_divisor-divisor.result = search rules in
    let k : SFits w64 c.over-k.result = search rules in
    let a : SFits w64 c.over.result = search rules in
    let p : SFits w128 c.product.result = search rules in
    let f : SFits w128 c.from.result = search rules in
    let g : SFits w128 c.from-2.result = search rules in
    let from2 = simp to_z-of_z at c.from-2.ensures in
    let from1 = simp to_z-of_z at c.from.ensures in
    let fit_a : IsFitting c.over.result = (simp to_z-of_z at c.over.ensures.fits) c.requires.own_fits in
    let fit_k : IsFitting c.over-k.result = (simp to_z-of_z at c.over-k.ensures.fits) c.requires.times_fit in
    let fit_p : unsigned_abs c.product.result < 2 ^ 84 = (simp to_z-of_z at c.product.ensures.factor) c.requires.own_fits fit_k in
    let s : SFits w128 (c.from-2.result -ℤ c.product.result) = unit_sfits c.from-2.result c.product.result (subst IsFitting (sym from2) fit_a) fit_p in
    simp to_z-of_z
    (unit_factors c.args.own c.args.times (record { k = c.from.result; n = c.from-2.result -ℤ c.product.result }) c.common_divisor-divisor.result c.over-k.result c.over.result c.product.result
    c.requires.own c.requires.times (simp to_z-of_z at c.common_divisor-divisor.ensures.divisor) (simp to_z-of_z at c.over-k.ensures.value) (simp to_z-of_z at c.over.ensures.value) (simp to_z-of_z at c.product.ensures.value) from1 (subst (λ (z : ℤ). c.from-2.result -ℤ c.product.result ≡ z -ℤ c.product.result) from2 refl))

pub returns-clause-n : goal.returns-clause-n
returns-clause-n c =
    let o : SFits w64 c.args.own = c.ranges.own in
    let t : SFits w64 c.args.times = c.ranges.times in
    let d : SFits w64 c.common_divisor-divisor.result = search rules in
    let k : SFits w64 c.over-k.result = search rules in
    let a : SFits w64 c.over.result = search rules in
    let p : SFits w128 c.product.result = search rules in
    let g : SFits w128 c.from-2.result = search rules in
    let from2 = simp to_z-of_z at c.from-2.ensures in
    let fit_a : IsFitting c.over.result = (simp to_z-of_z at c.over.ensures.fits) c.requires.own_fits in
    let fit_k : IsFitting c.over-k.result = (simp to_z-of_z at c.over-k.ensures.fits) c.requires.times_fit in
    let fit_p : unsigned_abs c.product.result < 2 ^ 84 = (simp to_z-of_z at c.product.ensures.factor) c.requires.own_fits fit_k in
    let s : SFits w128 (c.from-2.result -ℤ c.product.result) = unit_sfits c.from-2.result c.product.result (subst IsFitting (sym from2) fit_a) fit_p in
    let up : pos 0 <ℤ c.over-k.result = subst (λ (z : ℤ). pos 0 <ℤ z) (sym (simp to_z-of_z at c.over-k.ensures.value)) (quotient_above c.args.times c.common_divisor-divisor.result (unsigned_abs c.args.own) (IsGcd-swap (unsigned_abs c.args.own) (unsigned_abs c.args.times) (unsigned_abs c.common_divisor-divisor.result) (simp to_z-of_z at c.common_divisor-divisor.ensures.divisor)) c.requires.times) in
    simp to_z-of_z
    (unit_small c.args.own c.over-k.result c.from-2.result c.product.result _ (from2 ∙ simp to_z-of_z at c.over.ensures.value) (subst IsFitting (sym from2) fit_a) c.requires.own up (simp to_z-of_z at c.product.ensures.value) fit_p)
