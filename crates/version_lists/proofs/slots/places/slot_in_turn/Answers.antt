use Rattle.std.proofs.Common.{◌≤◌, ◌+◌, ◌<◌, [], arith, Fits-le, sym, slice_index_or}
use Rattle.version_lists.proofs.Edits.{newest_rises}
use Rattle.version_lists.proofs.Searches.{before_number, later_more, lower, read_here, read_none, read_past}
use Rattle.version_lists.proofs.slots.places.slot_in_turn.Goals as goal

pub returns-then-one-number : goal.returns-then-one-number
returns-then-one-number c =
    read_here (slice_index_or c.args.kept.now.before 0 []) c.loop-one.i c.args.number c.in-Some.one.now
    (newest_rises c.args.kept.now.before c.requires.rising.before) c.in-Some.ensures.some c.if-one-number.true

pub returns-then-one-number-2 : goal.returns-then-one-number-2
returns-then-one-number-2 c =
    read_past (slice_index_or c.args.kept.now.before 0 []) c.loop-one.i c.args.number c.in-Some.one.now
    (newest_rises c.args.kept.now.before c.requires.rising.before) c.loop-one.invariant c.in-Some.ensures.some c.if-one-number-2.true

pub overflow_add-i : goal.overflow_add-i
overflow_add-i c =
    let less : c.in-Some.one.now.number < c.args.number =
    lower c.args.number c.in-Some.one.now.number (λ e. c.if-one-number.false (sym e)) c.if-one-number-2.false in
    Fits-le
    (before_number (slice_index_or c.args.kept.now.before 0 []) c.loop-one.i c.args.number c.in-Some.one.now
    (newest_rises c.args.kept.now.before c.requires.rising.before) c.in-Some.ensures.some less)
    c.ranges.number

pub loop-one-smaller : goal.loop-one-smaller
loop-one-smaller c =
    let less : c.in-Some.one.now.number < c.args.number =
    lower c.args.number c.in-Some.one.now.number (λ e. c.if-one-number.false (sym e)) c.if-one-number-2.false in
    let below : c.loop-one.i + 1 ≤ c.args.number =
    before_number (slice_index_or c.args.kept.now.before 0 []) c.loop-one.i c.args.number c.in-Some.one.now
    (newest_rises c.args.kept.now.before c.requires.rising.before) c.in-Some.ensures.some less in
    omega (arith, below)

pub loop-one-preserved : goal.loop-one-preserved
loop-one-preserved c =
    let less : c.in-Some.one.now.number < c.args.number =
    lower c.args.number c.in-Some.one.now.number (λ e. c.if-one-number.false (sym e)) c.if-one-number-2.false in
    later_more (slice_index_or c.args.kept.now.before 0 []) c.loop-one.i c.args.number c.in-Some.one.now c.loop-one.invariant c.in-Some.ensures.some less

pub returns : goal.returns
returns c =
    read_none (slice_index_or c.args.kept.now.before 0 []) c.loop-one.i c.args.number c.loop-one.invariant c.in_default.ensures.none
