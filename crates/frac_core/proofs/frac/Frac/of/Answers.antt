use Rattle.std.proofs.Common.{rules, SFits, w64, pos}
use Rattle.std.proofs.lemmas.Int.{to_z-of_z}
use lib.Signed.{lt_z}
use Rattle.frac_core.proofs.Made.{AreSizes, AreParts, reduced, kept_parts, ratio_parts, no_parts_fit}
use Rattle.frac_core.proofs.frac.Frac.of.Goals.{After-part-den}
use Rattle.frac_core.proofs.frac.Frac.of.Goals as goal

are_sizes : (c : goal.After-divisor_of-divisor) → AreSizes c.args.p c.args.q c.unsigned_abs-size.result c.unsigned_abs-whole.result c.divisor_of-divisor.result
are_sizes c = record {
  above = c.requires;
  size_is = simp (to_z-of_z, c.ranges.p) at c.unsigned_abs-size.ensures.value;
  whole_is = simp (to_z-of_z, c.ranges.q) at c.unsigned_abs-whole.ensures.value;
  divisor = c.divisor_of-divisor.ensures;
}

are_parts : (c : After-part-den) → AreParts c.unsigned_abs-size.result c.unsigned_abs-whole.result c.divisor_of-divisor.result c.part-num.result c.part-den.result
are_parts c = record { num_is = c.part-num.ensures; den_is = c.part-den.ensures }

pub part-num-requires : goal.part-num-requires
part-num-requires c =
    (reduced c.args.p c.args.q c.unsigned_abs-size.result c.unsigned_abs-whole.result c.divisor_of-divisor.result (are_sizes c)).g_above

pub part-den-requires : goal.part-den-requires
part-den-requires c = part-num-requires c.before

pub returns-then-num-ge-PART_BOUND-clause-unfit : goal.returns-then-num-ge-PART_BOUND-clause-unfit
returns-then-num-ge-PART_BOUND-clause-unfit c =
    no_parts_fit c.args.p c.args.q c.unsigned_abs-size.result c.unsigned_abs-whole.result c.divisor_of-divisor.result c.part-num.result c.part-den.result
    (are_sizes c.before.before.before) (are_parts c.before) c.then-num-ge-PART_BOUND.either

pub invariant_of-result : goal.invariant_of-result
invariant_of-result c =
    let made : SFits w64 c.signed.result = search rules in
    let is = simp (to_z-of_z, c.ranges.p) at c.signed.ensures in
    simp to_z-of_z (kept_parts c.args.p c.args.q c.signed.result (lt_z c.args.p (pos 0)) c.unsigned_abs-size.result c.unsigned_abs-whole.result c.divisor_of-divisor.result
    c.part-num.result c.part-den.result (are_sizes c.before.before.before.before.before) (are_parts c.before.before.before) is c.if-num-ge-PART_BOUND.false c.if-den-ge-PART_BOUND.false)

pub returns-clause-value : goal.returns-clause-value
returns-clause-value c =
    let made : SFits w64 c.signed.result = search rules in
    let is = simp (to_z-of_z, c.ranges.p) at c.signed.ensures in
    simp to_z-of_z (ratio_parts c.args.p c.args.q c.signed.result c.unsigned_abs-size.result c.unsigned_abs-whole.result c.divisor_of-divisor.result
    c.part-num.result c.part-den.result (are_sizes c.before.before.before.before.before) (are_parts c.before.before.before) is)

pub returns-clause-lowest : goal.returns-clause-lowest
returns-clause-lowest c =
    let made : SFits w64 c.signed.result = search rules in
    let is = simp (to_z-of_z, c.ranges.p) at c.signed.ensures in
    simp to_z-of_z (kept_parts c.args.p c.args.q c.signed.result (lt_z c.args.p (pos 0)) c.unsigned_abs-size.result c.unsigned_abs-whole.result c.divisor_of-divisor.result
    c.part-num.result c.part-den.result (are_sizes c.before.before.before.before.before) (are_parts c.before.before.before) is c.if-num-ge-PART_BOUND.false c.if-den-ge-PART_BOUND.false).lowest
