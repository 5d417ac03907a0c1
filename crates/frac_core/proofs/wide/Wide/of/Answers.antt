use Rattle.std.proofs.Common.{SFits, pos}
use Rattle.std.specs.Int.{w128}
use Rattle.std.proofs.lemmas.Int.{to_z-of_z}
use lib.Signed.{lt_z}
use Rattle.frac_core.proofs.Made.{AreSizes, reduced, is_lowest, ratio}
use Rattle.frac_core.proofs.wide.Wide.of.Goals as goal

are_sizes : (c : goal.After-gcd-divisor) → AreSizes c.args.p c.args.q c.unsigned_abs-size.result c.unsigned_abs-whole.result c.gcd-divisor.result
are_sizes c = record {
  above = c.requires.q;
  size_is = simp (to_z-of_z, c.ranges.p) at c.unsigned_abs-size.ensures.value;
  whole_is = simp (to_z-of_z, c.ranges.q) at c.unsigned_abs-whole.ensures.value;
  divisor = c.gcd-divisor.ensures;
}

pub nonzero_div-size : goal.nonzero_div-size
nonzero_div-size c = (reduced c.args.p c.args.q c.unsigned_abs-size.result c.unsigned_abs-whole.result c.gcd-divisor.result (are_sizes c)).g_above

pub nonzero_div-result : goal.nonzero_div-result
nonzero_div-result c = nonzero_div-size c.before

pub invariant_of-result : goal.invariant_of-result
invariant_of-result c =
    let made : SFits w128 c.signed.result = record { sfits = c.signed.type_inv } in
    let is = simp (to_z-of_z, c.ranges.p) at c.signed.ensures in
    simp to_z-of_z (is_lowest c.args.p c.args.q c.signed.result (lt_z c.args.p (pos 0)) c.unsigned_abs-size.result c.unsigned_abs-whole.result c.gcd-divisor.result (are_sizes c.before) is)

pub returns-clause-value : goal.returns-clause-value
returns-clause-value c =
    let made : SFits w128 c.signed.result = record { sfits = c.signed.type_inv } in
    let is = simp (to_z-of_z, c.ranges.p) at c.signed.ensures in
    simp to_z-of_z (ratio c.args.p c.args.q c.signed.result c.unsigned_abs-size.result c.unsigned_abs-whole.result c.gcd-divisor.result (are_sizes c.before) is)

pub returns-clause-lowest : goal.returns-clause-lowest
returns-clause-lowest c = invariant_of-result c
