use Rattle.std.proofs.Common.{rules, SFits, w64, ◌<ℤ◌, ℤ, pos, sym, subst, unsigned_abs}
use Rattle.std.proofs.lemmas.Int.{to_z-of_z}
use Rattle.path_levels.proofs.Units.{IsRisen, rise_above, rise_of}
use Rattle.path_levels.proofs.joins.times.Goals as goal
use Rattle.corner_lines.proofs.LevelRows.Units.{quotient_above}

part-above : (c : goal.After-over-part) → pos 0 <ℤ c.over-part.result
part-above c =
    let d : SFits w64 c.common_divisor.result = search rules in
    let w : SFits w64 c.weight.result = search rules in
    let s : SFits w64 c.args.line.scale = search rules in
    subst (λ (z : ℤ). pos 0 <ℤ z) (sym (simp to_z-of_z at c.over-part.ensures.value)) (quotient_above c.args.line.scale c.common_divisor.result (unsigned_abs c.weight.result) (simp to_z-of_z at c.common_divisor.ensures.divisor) c.requires.scale)

pub common_divisor-requires-2 : goal.common_divisor-requires-2
common_divisor-requires-2 c =
    let p : SFits w64 c.over-part.result = search rules in
    simp to_z-of_z (part-above c)

pub over-requires-clause-a : goal.over-requires-clause-a
over-requires-clause-a c =
    let d : SFits w64 c.common_divisor.result = search rules in
    let w : SFits w64 c.weight.result = search rules in
    let s : SFits w64 c.args.line.scale = search rules in
    let p : SFits w64 c.over-part.result = search rules in
    simp to_z-of_z
    (subst (λ (z : ℤ). pos 0 <ℤ z) (sym (simp to_z-of_z at c.over-part.ensures.value)) (quotient_above c.args.line.scale c.common_divisor.result (unsigned_abs c.weight.result) (simp to_z-of_z at c.common_divisor.ensures.divisor) c.requires.scale))

risen : (c : goal.After-over) → IsRisen c.args.line c.args.unit c.weight.result c.common_divisor.result c.over-part.result c.common_divisor-2.result c.over.result
risen c =
    let u : SFits w64 c.args.unit = c.ranges.unit in
    let w : SFits w64 c.weight.result = search rules in
    let p : SFits w64 c.over-part.result = search rules in
    let d : SFits w64 c.common_divisor.result = search rules in
    let g : SFits w64 c.common_divisor-2.result = search rules in
    let s : SFits w64 c.args.line.scale = search rules in
    record {
      scale_above = c.requires.scale;
      small = c.requires.small;
      unit_above = c.requires.unit;
      weight_is = c.weight.ensures;
      divides = simp to_z-of_z at c.common_divisor.ensures.divisor;
      part_is = simp to_z-of_z at c.over-part.ensures.value;
      shares = simp to_z-of_z at c.common_divisor-2.ensures.divisor;
      times_is = simp to_z-of_z at c.over.ensures.value;
    }

pub returns-clause-rise : goal.returns-clause-rise
returns-clause-rise c =
    let t : SFits w64 c.over.result = search rules in
    simp to_z-of_z (rise_of c.args.line c.args.unit c.weight.result c.common_divisor.result c.over-part.result c.common_divisor-2.result c.over.result (risen c))

pub returns-clause-above : goal.returns-clause-above
returns-clause-above c =
    let t : SFits w64 c.over.result = search rules in
    simp to_z-of_z (rise_above c.args.line c.args.unit c.weight.result c.common_divisor.result c.over-part.result c.common_divisor-2.result c.over.result (risen c))
