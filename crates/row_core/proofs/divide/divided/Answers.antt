use Rattle.std.proofs.Common.{◌≡◌, ◌+◌, ◌*ℤ◌, ◌*◌, ◌≤◌, ℕ, ℤ, subst, sym, to_z, of_z, arith, SFits, rules}
use Prim.Native.Nat.{◌∣◌}
use Rattle.std.specs.Prelude.{unsigned_abs}
use Rattle.std.specs.Int.{w128}
use Rattle.std.proofs.lemmas.Int.{to_z-of_z}
use Rattle.std.proofs.lemmas.Result.{err_from_is_err_and}
use Rattle.frac_core.specs.declared.frac.TheConstants.{PART_BOUND}
use Rattle.row_core.specs.Rows.{coefficient}
use Rattle.row_core.specs.Walks.{IsPushed, whole}
use Rattle.row_core.proofs.Lowest.{divided_lowest, divided_reduced, none_fits}
use Rattle.row_core.proofs.Dividing.{divided_more, divided_ends, steps_within}
use Rattle.row_core.proofs.divide.divided.Goals as goal

pub keep-requires-clause-divides : goal.keep-requires-clause-divides
keep-requires-clause-divides c =
    let here : c.in-Some.read.by ≡ whole c.args.sum.now c.in-Some.read.col =
    c.in-Some.ensures.read.value c.loop-read.invariant.floor c.loop-read.invariant.are in
    let divisor : to_z w128 (of_z w128 c.args.divisor) ≡ c.args.divisor = to_z-of_z w128 c.args.divisor c.ranges.divisor in
    let by_fits : SFits w128 c.in-Some.read.by = search rules in
    let by : to_z w128 (of_z w128 c.in-Some.read.by) ≡ c.in-Some.read.by = to_z-of_z w128 c.in-Some.read.by by_fits in
    rw (divisor, by) (subst (λ (z : ℤ). unsigned_abs c.args.divisor ∣ unsigned_abs z) (sym here) (c.requires.divisor.divides c.in-Some.read.col))

pub returns-in_err-keep-clause-unfit : goal.returns-in_err-keep-clause-unfit
returns-in_err-keep-clause-unfit c =
    let here : c.in-Some.read.by ≡ whole c.args.sum.now c.in-Some.read.col =
    c.in-Some.ensures.read.value c.loop-read.invariant.floor c.loop-read.invariant.are in
    let divisor : to_z w128 (of_z w128 c.args.divisor) ≡ c.args.divisor = to_z-of_z w128 c.args.divisor c.ranges.divisor in
    let by_fits : SFits w128 c.in-Some.read.by = search rules in
    let by : to_z w128 (of_z w128 c.in-Some.read.by) ≡ c.in-Some.read.by = to_z-of_z w128 c.in-Some.read.by by_fits in
    let exit = err_from_is_err_and c.from_residual-in_err-keep.result c.from_residual-in_err-keep.ensures.1 in
    rw (exit.1, exit.2) (λ same.
    let large : unsigned_abs c.args.divisor * PART_BOUND ≤ unsigned_abs (whole c.args.sum.now c.in-Some.read.col) =
    rw (divisor, by, here) at (c.in_err-keep.ensures.unfit same) in
    none_fits c.args.divisor (whole c.args.sum.now) c.in-Some.read.col c.requires.divisor large)

pub loop-read-smaller : goal.loop-read-smaller
loop-read-smaller c =
    let next = c.in-Some.ensures.read.read c.loop-read.invariant.floor c.loop-read.invariant.are in
    omega (arith, c.in-Some.ensures.read.further, steps_within c.args.sum.now c.in-Some.read.next (c.in-Some.read.col + 1) next)

pub loop-read-preserved : goal.loop-read-preserved
loop-read-preserved c =
    let pushed : IsPushed (to_z w128 (of_z w128 c.args.divisor)) c.in-Some.read.col c.in-Some.read.by c.loop-read.out.items c.keep.new.out.items =
    search rules in
    divided_more c.args.sum.now c.loop-read.at c.in-Some.read.next (to_z w128 (of_z w128 c.args.divisor)) c.loop-read.out.items c.keep.new.out.items c.in-Some.read.col
    c.in-Some.read.by c.requires.sum.rising c.loop-read.invariant c.in-Some.ensures.read.first c.in-Some.ensures.read.value c.in-Some.ensures.read.read pushed

pub returns-clause-value : goal.returns-clause-value
returns-clause-value c =
    let divisor : to_z w128 (of_z w128 c.args.divisor) ≡ c.args.divisor = to_z-of_z w128 c.args.divisor c.ranges.divisor in
    let ends : (q : ℕ) → to_z w128 (of_z w128 c.args.divisor) *ℤ coefficient q c.loop-read.out.items ≡ whole c.args.sum.now q =
    divided_ends c.args.sum.now c.loop-read.at (to_z w128 (of_z w128 c.args.divisor)) c.loop-read.out.items c.requires.sum.rising c.loop-read.invariant c.in_default.ensures.end in
    divided_reduced c.args.divisor c.loop-read.out.items (whole c.args.sum.now) c.requires.divisor.above
    (rw divisor at ends)

pub returns-clause-kept : goal.returns-clause-kept
returns-clause-kept c =
    let divisor : to_z w128 (of_z w128 c.args.divisor) ≡ c.args.divisor = to_z-of_z w128 c.args.divisor c.ranges.divisor in
    let ends : (q : ℕ) → to_z w128 (of_z w128 c.args.divisor) *ℤ coefficient q c.loop-read.out.items ≡ whole c.args.sum.now q =
    divided_ends c.args.sum.now c.loop-read.at (to_z w128 (of_z w128 c.args.divisor)) c.loop-read.out.items c.requires.sum.rising c.loop-read.invariant c.in_default.ensures.end in
    record {
      lowest = divided_lowest c.args.divisor c.loop-read.out.items (whole c.args.sum.now) c.requires.divisor
          (rw divisor at ends)
          c.loop-read.invariant.rising c.loop-read.invariant.nonzero;
      fits = c.loop-read.invariant.fits;
    }
