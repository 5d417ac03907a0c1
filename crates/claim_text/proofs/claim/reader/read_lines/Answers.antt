use Rattle.std.proofs.Common.{arith, ◌∷◌, [], ◌++◌}
use Rattle.std.specs.Str.Lines.{lines}
use Rattle.claim_text.specs.Claims.ClaimTexts.{nothing_read}
use Rattle.problem_reading.proofs.LineLists.{line_more, line_number, length_more}
use Rattle.problem_reading.proofs.Problems.Readings.{lines_count}
use Rattle.claim_text.proofs.Claims.ClaimReadings.{first_bad, read_more, draft_read, draft_nothing}
use Rattle.claim_text.proofs.claim.reader.read_lines.Goals as goal

pub overflow_add-count : goal.overflow_add-count
overflow_add-count c =
    let so_far = c.loop-line.invariant.2 in
    let front = line_number (lines c.args.text.now) so_far.0 _ _ _ so_far.1 c.in-Some.ensures.steps.first in
    omega (arith, front, so_far.2, lines_count c.args.text.now, c.requires)

pub loop-line-preserved : goal.loop-line-preserved
loop-line-preserved c =
    let so_far = c.loop-line.invariant.2 in
    let line = c.in-Some.line.bytes.now in (
      tt,
      tt,
      (
        so_far.0 ++ line ∷ [],
        line_more (lines c.args.text.now) so_far.0 _ line _ so_far.1 c.in-Some.ensures.steps.first,
        length_more so_far.0 line c.loop-line.count so_far.2,
        read_more so_far.0 nothing_read c.loop-line.draft c.take_line.new.self line so_far.3 (c.in_ok-take_line.ensures.taken c.if-not-branch.false),
        c.in_ok-take_line.ensures.seen c.if-not-branch.false,
      ),
    )

pub returns-then-not-branch-clause-stop : goal.returns-then-not-branch-clause-stop
returns-then-not-branch-clause-stop c =
    let so_far = c.loop-line.invariant.2 in
    first_bad (lines c.args.text.now) so_far.0 _ c.in-Some.line.bytes.now _ c.loop-line.draft c.loop-line.count so_far.1 c.in-Some.ensures.steps.first so_far.2
    so_far.3 (c.in_ok-take_line.ensures.refused c.if-not-branch.true)

pub take_line-requires-clause-draft : goal.take_line-requires-clause-draft
take_line-requires-clause-draft c =
    let so_far = c.loop-line.invariant.2 in
    draft_read so_far.0 nothing_read c.loop-line.draft so_far.3 draft_nothing

pub take_line-requires-clause-seen : goal.take_line-requires-clause-seen
take_line-requires-clause-seen c = let so_far = c.loop-line.invariant.2 in so_far.4
