use Rattle.std.proofs.Common.{◌≡◌, ◌<◌, ◌≤◌, ◌+ℤ◌, ◌*ℤ◌, ℕ, ℤ, get_or, length, pos, SFits, arith, subst, to_z, of_z}
use Rattle.std.specs.Prelude.{unsigned_abs}
use Rattle.std.specs.Int.{w64}
use Rattle.std.proofs.lemmas.Int.{to_z-of_z}
use Rattle.frac_core.specs.declared.frac.TheConstants.{PART_BOUND}
use Rattle.frac_core.proofs.Fitting.{fits-word}
use Rattle.path_lines.specs.Numbers.{number_at}
use Rattle.path_lines.proofs.Arithmetic.AddedNumbers.{AreAddedTo, all_added, next_is_old, none_added, one_added}
use Rattle.path_lines.proofs.adding.add_at.Goals as goal

pub loop-at-init : goal.loop-at-init
loop-at-init c = none_added c.args.places.now c.args.by.now (to_z w64 (of_z w64 c.args.factor)) c.args.others.now c.requires.by

pub loop-at-preserved : goal.loop-at-preserved
loop-at-preserved c =
    let within : get_or c.args.places.now c.loop-at.at-index 0 < length c.args.others.now = c.requires.places.within c.loop-at.at-index 0 c.loop-at-test.true in
    let inside : get_or c.args.places.now c.loop-at.at-index 0 < length c.loop-at.by = omega (arith, within, c.requires.count, c.loop-at.invariant.count) in
    let factor : SFits w64 c.args.factor = c.ranges.factor in
    let number : SFits w64 (get_or c.loop-at.by (get_or c.args.places.now c.loop-at.at-index 0) (pos 0)) = fits-word _ (c.loop-at.invariant.fits (get_or c.args.places.now c.loop-at.at-index 0) (pos 0) inside) in
    let other : SFits w64 (get_or c.args.others.now (get_or c.args.places.now c.loop-at.at-index 0) (pos 0)) = fits-word _ (c.requires.others (get_or c.args.places.now c.loop-at.at-index 0) (pos 0) within) in
    let next : SFits w64 c.in-Some.next = fits-word c.in-Some.next c.in-Some.ensures.fits in
    let is : c.in-Some.next ≡ number_at c.loop-at.by (get_or c.args.places.now c.loop-at.at-index 0) +ℤ c.args.factor *ℤ number_at c.args.others.now (get_or c.args.places.now c.loop-at.at-index 0) = simp to_z-of_z at c.in-Some.ensures.sum in
    let so_far : AreAddedTo c.loop-at.at-index c.args.places.now c.args.by.now c.args.factor c.args.others.now c.loop-at.by = simp to_z-of_z at c.loop-at.invariant in
    simp to_z-of_z (one_added c.loop-at.at-index 0 c.args.places.now c.args.by.now c.args.factor c.args.others.now c.loop-at.by c.in-Some.next c.requires.places c.requires.count c.loop-at-test.true so_far is c.in-Some.ensures.fits)

pub returns-in_default-clause-unfit : goal.returns-in_default-clause-unfit
returns-in_default-clause-unfit c =
    let within : get_or c.args.places.now c.loop-at.at-index 0 < length c.args.others.now = c.requires.places.within c.loop-at.at-index 0 c.loop-at-test.true in
    let inside : get_or c.args.places.now c.loop-at.at-index 0 < length c.loop-at.by = omega (arith, within, c.requires.count, c.loop-at.invariant.count) in
    let factor : SFits w64 c.args.factor = c.ranges.factor in
    let number : SFits w64 (get_or c.loop-at.by (get_or c.args.places.now c.loop-at.at-index 0) (pos 0)) = fits-word _ (c.loop-at.invariant.fits (get_or c.args.places.now c.loop-at.at-index 0) (pos 0) inside) in
    let other : SFits w64 (get_or c.args.others.now (get_or c.args.places.now c.loop-at.at-index 0) (pos 0)) = fits-word _ (c.requires.others (get_or c.args.places.now c.loop-at.at-index 0) (pos 0) within) in
    let large : PART_BOUND ≤ unsigned_abs (number_at c.loop-at.by (get_or c.args.places.now c.loop-at.at-index 0) +ℤ c.args.factor *ℤ number_at c.args.others.now (get_or c.args.places.now c.loop-at.at-index 0)) = simp to_z-of_z at c.in_default.ensures.unfit in
    let so_far : AreAddedTo c.loop-at.at-index c.args.places.now c.args.by.now c.args.factor c.args.others.now c.loop-at.by = simp to_z-of_z at c.loop-at.invariant in
    λ same. (
      get_or c.args.places.now c.loop-at.at-index 0,
      omega (arith, within, c.requires.count),
      subst (λ (z : ℤ). PART_BOUND ≤ unsigned_abs (z +ℤ c.args.factor *ℤ number_at c.args.others.now (get_or c.args.places.now c.loop-at.at-index 0)))
          (next_is_old c.loop-at.at-index 0 c.args.places.now c.args.by.now c.args.factor c.args.others.now c.loop-at.by c.requires.places c.loop-at-test.true so_far) large,
    )

pub returns-clause-sum : goal.returns-clause-sum
returns-clause-sum c =
    let factor : SFits w64 c.args.factor = c.ranges.factor in
    let so_far : AreAddedTo c.loop-at.at-index c.args.places.now c.args.by.now c.args.factor c.args.others.now c.loop-at.by = simp to_z-of_z at c.loop-at.invariant in
    let end : c.loop-at.at-index ≡ length c.args.places.now = omega (arith, c.loop-at-test.false, c.loop-at.auto.at-index-end) in
    λ same. all_added c.args.places.now c.args.by.now c.args.factor c.args.others.now c.loop-at.by c.requires.places c.requires.count
    (subst (λ (n : ℕ). AreAddedTo n c.args.places.now c.args.by.now c.args.factor c.args.others.now c.loop-at.by) end so_far)
