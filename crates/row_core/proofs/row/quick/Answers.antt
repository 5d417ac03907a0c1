use Rattle.std.proofs.Common.{SFits, refl, rules}
use Rattle.std.specs.Int.{w128}
use Rattle.std.proofs.lemmas.Int.{to_z-of_z}
use Rattle.row_core.specs.Walks.{whole}
use Rattle.row_core.proofs.Gathering.{written_reduced, written_kept, made_divisor}
use Rattle.row_core.proofs.row.quick.Goals as goal

pub invariant_of-result : goal.invariant_of-result
invariant_of-result c =
    let made = c.in_ok-made.made in
    let is = c.in_ok-made.ensures in
    written_kept made.entries.items (whole c.args.sum.now) made.tally.divisor is.divides is.greatest (c.if-is_lowest.ensures.divisor refl) (is.written (c.if-is_lowest.ensures.fits refl))

pub returns-then-is_lowest-clause-value : goal.returns-then-is_lowest-clause-value
returns-then-is_lowest-clause-value c =
    written_reduced c.in_ok-made.made.entries.items (whole c.args.sum.now) (c.in_ok-made.ensures.written (c.if-is_lowest.ensures.fits refl))

pub returns-then-is_lowest-clause-kept : goal.returns-then-is_lowest-clause-kept
returns-then-is_lowest-clause-kept c =
    let made = c.in_ok-made.made in
    let is = c.in_ok-made.ensures in
    written_kept made.entries.items (whole c.args.sum.now) made.tally.divisor is.divides is.greatest (c.if-is_lowest.ensures.divisor refl) (is.written (c.if-is_lowest.ensures.fits refl))

pub divided-requires-clause-divisor : goal.divided-requires-clause-divisor
divided-requires-clause-divisor c =
    let fits : SFits w128 c.divisor_in.result = search rules in
    simp to_z-of_z (made_divisor (whole c.args.sum.now) c.in_ok-made.made.tally.divisor c.divisor_in.result c.in_ok-made.ensures.divides c.in_ok-made.ensures.greatest
    c.divisor_in.ensures.some c.divisor_in.ensures.none)
