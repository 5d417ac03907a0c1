use Rattle.std.proofs.Common.{arith, ◌∷◌, [], ◌++◌}
use Rattle.std.specs.Prelude.{Contains}
use Rattle.std.specs.Str.Lines.{lines}
use Rattle.problem_reading.specs.Problems.{nothing_read}
use Rattle.problem_reading.proofs.LineLists.{line_more, line_number, length_more}
use Rattle.problem_reading.proofs.Problems.Readings.{lines_count, first_bad, all_read, read_more}
use Rattle.problem_reading.proofs.problem.reader.read_lines.Goals as goal

pub overflow_add-number : goal.overflow_add-number
overflow_add-number c =
    let so_far = c.loop-line.invariant.2 in
    let front = line_number (lines c.args.text.now) so_far.0 _ _ _ so_far.1 c.in-Some.ensures.steps.first in
    omega (arith, front, so_far.2, lines_count c.args.text.now, c.requires.short)

pub loop-line-preserved : goal.loop-line-preserved
loop-line-preserved c =
    let so_far = c.loop-line.invariant.2 in
    let line = c.in-Some.line.bytes.now in (
      tt,
      tt,
      (
        so_far.0 ++ line ∷ [],
        line_more (lines c.args.text.now) so_far.0 _ line _ so_far.1 c.in-Some.ensures.steps.first,
        length_more so_far.0 line c.loop-line.number so_far.2,
        read_more (λ a. Contains c.args.covered.now a) so_far.0 nothing_read c.loop-line.draft c.take_line.new.self line so_far.3 (c.in_ok-take_line.ensures.taken c.if-not-branch.false),
      ),
    )

pub returns-then-not-branch-clause-stop : goal.returns-then-not-branch-clause-stop
returns-then-not-branch-clause-stop c =
    let so_far = c.loop-line.invariant.2 in
    first_bad (lines c.args.text.now) so_far.0 _ c.in-Some.line.bytes.now _ c.args.covered.now c.loop-line.draft c.loop-line.number so_far.1 c.in-Some.ensures.steps.first so_far.2
    c.requires.covered so_far.3 (c.in_ok-take_line.ensures.refused c.if-not-branch.true)

pub returns-clause-read : goal.returns-clause-read
returns-clause-read c =
    let so_far = c.loop-line.invariant.2 in
    all_read (lines c.args.text.now) so_far.0 _ c.args.covered.now _ so_far.1 c.in-None.ensures.steps.first.0 c.requires.covered so_far.3
