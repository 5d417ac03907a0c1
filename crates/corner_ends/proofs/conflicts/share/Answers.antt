use Rattle.std.proofs.Common.{rules, SFits, ◌/◌, ◌∙◌, ℤ, pos, neg_ℤ, ◌*ℤ◌, ap}
use Rattle.std.specs.Int.{w64}
use Rattle.std.specs.Int.RustNames.{unsigned_abs}
use Rattle.std.proofs.lemmas.Int.{to_z-of_z}
use Rattle.std.proofs.Math.Nat.{div-mul_cancel}
use Rattle.corner_ends.proofs.SharedTimes.{share_above, share_below}
use Rattle.corner_ends.proofs.conflicts.share.Goals as goal

pub returns-then-is_below-clause-value : goal.returns-then-is_below-clause-value
returns-then-is_below-clause-value c =
    let size : SFits w64 c.size_share-size.result = search rules in
    let turned = simp to_z-of_z at c.opposite.ensures.value in
    let value = simp (to_z-of_z, c.ranges.times) at c.size_share-size.ensures.value in
    let low = simp (to_z-of_z, c.ranges.times) at c.is_below.ensures.yes in
    let turned_fits : SFits w64 c.opposite.result = search rules in
    simp to_z-of_z
    (ap (λ (z : ℤ). pos c.args.factor *ℤ z) (turned ∙ ap neg_ℤ value)
    ∙ share_below c.args.factor (unsigned_abs c.args.times / c.args.factor) c.args.times (low c.if-is_below.true) (div-mul_cancel c.args.factor c.requires.divides))

pub returns-else-is_below-clause-value : goal.returns-else-is_below-clause-value
returns-else-is_below-clause-value c =
    let value = simp (to_z-of_z, c.ranges.times) at c.size_share-size.ensures.value in
    let high = simp (to_z-of_z, c.ranges.times) at c.is_below.ensures.no in
    let size : SFits w64 c.size_share-size.result = search rules in
    simp to_z-of_z
    (ap (λ (z : ℤ). pos c.args.factor *ℤ z) value
    ∙ share_above c.args.factor (unsigned_abs c.args.times / c.args.factor) c.args.times (high c.if-is_below.false) (div-mul_cancel c.args.factor c.requires.divides))
