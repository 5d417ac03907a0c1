use Rattle.std.proofs.Common.{rules, SFits, w64, ◌<◌, ◌≤◌, ◌<ℤ◌, ℤ, ℕ, pos, sym, subst, unsigned_abs, arith}
use Rattle.std.specs.Int.{w128}
use Rattle.std.proofs.lemmas.Int.{to_z-of_z}
use Rattle.frac_core.specs.declared.frac.TheConstants.{PART_BOUND}
use Rattle.corner_joins.proofs.Costs.CostUnits.{rise_of, scale_above, unfit_rise}
use Rattle.corner_joins.proofs.joining.risen.Goals as goal
use Rattle.corner_lines.proofs.LevelRows.Units.{quotient_above}
use Rattle.frac_core.proofs.Fitting.{fits-word as fitting_sfits}

part-above : (c : goal.After-over-part) → pos 0 <ℤ c.over-part.result
part-above c =
    let d : SFits w64 c.common_divisor.result = search rules in
    let s : SFits w64 c.args.slot.scale = search rules in
    let w : SFits w64 c.args.slot.weight = search rules in
    subst (λ (z : ℤ). pos 0 <ℤ z) (sym (simp to_z-of_z at c.over-part.ensures.value)) (quotient_above c.args.slot.scale c.common_divisor.result (unsigned_abs c.args.slot.weight) (simp to_z-of_z at c.common_divisor.ensures.divisor) (scale_above c.args.slot c.args.unit c.requires.counted))

pub common_divisor-requires-2 : goal.common_divisor-requires-2
common_divisor-requires-2 c =
    let p : SFits w64 c.over-part.result = search rules in
    simp to_z-of_z (part-above c)

pub over-times-requires-clause-a : goal.over-times-requires-clause-a
over-times-requires-clause-a c =
    let p : SFits w64 c.over-part.result = search rules in
    let d : SFits w64 c.common_divisor.result = search rules in
    let s : SFits w64 c.args.slot.scale = search rules in
    let w : SFits w64 c.args.slot.weight = search rules in
    simp to_z-of_z
    (subst (λ (z : ℤ). pos 0 <ℤ z) (sym (simp to_z-of_z at c.over-part.ensures.value)) (quotient_above c.args.slot.scale c.common_divisor.result (unsigned_abs c.args.slot.weight) (simp to_z-of_z at c.common_divisor.ensures.divisor) (scale_above c.args.slot c.args.unit c.requires.counted)))

pub returns-then-unsigned_abs-ge-PART_BOUND-clause-none : goal.returns-then-unsigned_abs-ge-PART_BOUND-clause-none
returns-then-unsigned_abs-ge-PART_BOUND-clause-none c =
    let u : SFits w64 c.args.unit = c.ranges.unit in
    let p : SFits w64 c.over-part.result = search rules in
    let d : SFits w64 c.common_divisor.result = search rules in
    let g : SFits w64 c.common_divisor-2.result = search rules in
    let t : SFits w64 c.over-times.result = search rules in
    let n : SFits w128 c.product-next.result = search rules in
    let s : SFits w64 c.args.slot.scale = search rules in
    let w : SFits w64 c.args.slot.weight = search rules in
    unfit_rise c.args.slot c.args.unit c.common_divisor.result c.over-part.result c.common_divisor-2.result c.over-times.result c.product-next.result
    (record {
      divides = simp to_z-of_z at c.common_divisor.ensures.divisor;
      part_is = simp to_z-of_z at c.over-part.ensures.value;
      shares = simp to_z-of_z at c.common_divisor-2.ensures.divisor;
      times_is = simp to_z-of_z at c.over-times.ensures.value;
      next_is = simp to_z-of_z at c.product-next.ensures.value;
    })
    c.requires.counted c.requires.above
    (subst (λ (m : ℕ). PART_BOUND ≤ m) (simp to_z-of_z at c.unsigned_abs.ensures.value) c.if-unsigned_abs-ge-PART_BOUND.true)

pub returns-clause-some : goal.returns-clause-some
returns-clause-some c =
    let u : SFits w64 c.args.unit = c.ranges.unit in
    let p : SFits w64 c.over-part.result = search rules in
    let d : SFits w64 c.common_divisor.result = search rules in
    let g : SFits w64 c.common_divisor-2.result = search rules in
    let t : SFits w64 c.over-times.result = search rules in
    let n : SFits w128 c.product-next.result = search rules in
    let s : SFits w64 c.args.slot.scale = search rules in
    let w : SFits w64 c.args.slot.weight = search rules in
    let size = simp to_z-of_z at c.unsigned_abs.ensures.value in
    let small : unsigned_abs c.product-next.result < PART_BOUND = (let no = c.if-unsigned_abs-ge-PART_BOUND.false in omega (arith, no, size)) in
    let f : SFits w64 c.product-next.result = fitting_sfits c.product-next.result small in
    simp to_z-of_z
    (rise_of c.args.slot c.args.unit c.common_divisor.result c.over-part.result c.common_divisor-2.result c.over-times.result c.product-next.result
    (record {
      divides = simp to_z-of_z at c.common_divisor.ensures.divisor;
      part_is = simp to_z-of_z at c.over-part.ensures.value;
      shares = simp to_z-of_z at c.common_divisor-2.ensures.divisor;
      times_is = simp to_z-of_z at c.over-times.ensures.value;
      next_is = simp to_z-of_z at c.product-next.ensures.value;
    })
    c.requires.counted c.requires.above small)
