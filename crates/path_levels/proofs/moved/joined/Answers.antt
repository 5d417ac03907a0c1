use Rattle.std.proofs.Common.{◌≡◌, ◌-◌, ◌*◌, ◌<◌, ◌≤◌, ◌∙◌, ℕ, ℤ, pos, unsigned_abs, subst, SFits, to_z, of_z, rules, arith}
use Rattle.std.specs.Int.{w64, w128}
use Rattle.std.proofs.lemmas.Int.{to_z-of_z}
use Rattle.path_levels.proofs.Results.{onerr_then}
use Rattle.frac_core.specs.declared.frac.TheConstants.{PART_BOUND}
use Rattle.frac_core.specs.Fraction.{Fraction}
use Rattle.path_lines.proofs.Exchanges.Leading.{ok_then}
use Rattle.path_levels.specs.Exchanges.Moved.{IsLowestPart}
use Rattle.path_levels.proofs.Exchanges.MovedValues.{joint_ratio, joint_unfit, num_unfit, rest_unfit, share_small}
use Rattle.path_levels.proofs.moved.joined.Goals as goal

size_is : (n : ℕ) (z : ℤ) → SFits w128 z → n ≡ unsigned_abs (to_z w128 (of_z w128 z)) → n ≡ unsigned_abs z
size_is n z fits is = simp to_z-of_z at is

-- what is left of the denominators, from the number that the base's den gave and the one that was passed on
rests_are : (base : Fraction) (own passed den num_left den_left : ℤ) → SFits w128 own → SFits w128 den → own ≡ to_z w64 (of_z w64 passed) → SFits w64 passed → passed ≡ pos base.den
    → IsLowestPart (to_z w128 (of_z w128 own)) (to_z w128 (of_z w128 den)) num_left den_left → IsLowestPart (pos base.den) den num_left den_left
rests_are base own passed den num_left den_left own_fits den_fits own_is passed_fits passed_is part =
    subst (λ (z : ℤ). IsLowestPart z den num_left den_left) ((simp to_z-of_z at own_is) ∙ passed_is) (simp to_z-of_z at part)

pub returns-then-unsigned_abs-ge-PART_BOUND-clause-unfit : goal.returns-then-unsigned_abs-ge-PART_BOUND-clause-unfit
returns-then-unsigned_abs-ge-PART_BOUND-clause-unfit c =
    let den : SFits w128 c.args.part.den = search rules in
    let same = size_is c.unsigned_abs.result c.lowest_part-rests.result.den (search rules) c.unsigned_abs.ensures.value in
    rest_unfit c.args.base c.args.part.num c.args.part.den c.lowest_part-rests.result.den c.lowest_part-rests.result.num (rests_are c.args.base c.from.result c.den.result c.args.part.den c.lowest_part-rests.result.num c.lowest_part-rests.result.den (record { sfits = c.from.type_inv }) (search rules) c.from.ensures (record { sfits = c.den.type_inv }) c.den.ensures.value c.lowest_part-rests.ensures) c.requires.den c.requires.lowest (search rules)
    (subst (λ (n : ℕ). PART_BOUND ≤ n) same (omega (arith, c.if-unsigned_abs-ge-PART_BOUND.true)))

pub returns-then-unsigned_abs-gt-NUM_ROOM-clause-unfit : goal.returns-then-unsigned_abs-gt-NUM_ROOM-clause-unfit
returns-then-unsigned_abs-gt-NUM_ROOM-clause-unfit c =
    let den : SFits w128 c.args.part.den = search rules in
    let same = size_is c.unsigned_abs-2.result c.args.part.num (search rules) c.unsigned_abs-2.ensures.value in
    num_unfit c.args.base c.args.part.num c.args.part.den c.lowest_part-rests.result.den c.lowest_part-rests.result.num (rests_are c.args.base c.from.result c.den.result c.args.part.den c.lowest_part-rests.result.num c.lowest_part-rests.result.den (record { sfits = c.from.type_inv }) (search rules) c.from.ensures (record { sfits = c.den.type_inv }) c.den.ensures.value c.lowest_part-rests.ensures) c.requires.den c.requires.lowest (search rules)
    (subst (λ (n : ℕ). 2 * (PART_BOUND - 1) * (PART_BOUND - 1) < n) same (omega (arith, c.if-unsigned_abs-gt-NUM_ROOM.true)))

pub summed-requires : goal.summed-requires
summed-requires c =
    let den : SFits w128 c.args.part.den = search rules in
    let num : SFits w128 c.args.part.num = search rules in
    let part : IsLowestPart (pos c.args.base.den) c.args.part.den c.lowest_part-rests.result.num c.lowest_part-rests.result.den = rests_are c.args.base c.from.result c.den.result c.args.part.den c.lowest_part-rests.result.num c.lowest_part-rests.result.den (record { sfits = c.from.type_inv }) (search rules) c.from.ensures (record { sfits = c.den.type_inv }) c.den.ensures.value c.lowest_part-rests.ensures in
    let rest_size = size_is c.unsigned_abs.result c.lowest_part-rests.result.den (search rules) c.unsigned_abs.ensures.value in
    let num_size = size_is c.unsigned_abs-2.result c.args.part.num num c.unsigned_abs-2.ensures.value in
    record {
      above = part.up;
      den = omega (arith, rest_size, c.if-unsigned_abs-ge-PART_BOUND.false);
      share = share_small c.args.base c.args.part.den c.lowest_part-rests.result.den c.lowest_part-rests.result.num part (search rules);
      num = simp to_z-of_z (omega (arith, num_size, c.if-unsigned_abs-gt-NUM_ROOM.false));
    }

part_is : (c : goal.After-summed) → IsLowestPart (pos c.args.base.den) c.args.part.den c.lowest_part-rests.result.num c.lowest_part-rests.result.den
part_is c =
    let den : SFits w128 c.args.part.den = search rules in
    rests_are c.args.base c.from.result c.den.result c.args.part.den c.lowest_part-rests.result.num c.lowest_part-rests.result.den (record { sfits = c.from.type_inv }) (search rules) c.from.ensures (record { sfits = c.den.type_inv }) c.den.ensures.value c.lowest_part-rests.ensures

pub returns-clause-value : goal.returns-clause-value
returns-clause-value c =
    let num : SFits w128 c.args.part.num = search rules in
    ok_then c.summed.result (λ f r. joint_ratio c.args.base f c.args.part.num c.args.part.den c.lowest_part-rests.result.den c.lowest_part-rests.result.num (part_is c) r) (simp to_z-of_z at c.summed.ensures.value)

pub returns-clause-unfit : goal.returns-clause-unfit
returns-clause-unfit c =
    let num : SFits w128 c.args.part.num = search rules in
    onerr_then c.summed.result (λ none. joint_unfit c.args.base c.args.part.num c.args.part.den c.lowest_part-rests.result.den c.lowest_part-rests.result.num (part_is c) none) (simp to_z-of_z at c.summed.ensures.unfit)
