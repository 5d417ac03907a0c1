use Rattle.std.proofs.Common.{◌≡◌, ◌+◌, List, ℕ, length, ap, arith, refl, rules}
use Rattle.std.specs.Str.Lines.{lines}
use Rattle.span_text.specs.TextCuts.Lines.{lines_left}
use Rattle.problem_reading.proofs.Problems.Readings.{lines_count}
use Rattle.layout_cli.proofs.Made.{refuses_begin, refuses_more, refuses_end}
use Rattle.layout_cli.proofs.making.answer_lines.Goals as goal

pub loop-line-init : goal.loop-line-init
loop-line-init c =
    let all : lines_left c.into_iter-line-iterator.result ≡ lines c.args.script.now = search rules in
    (tt, tt, omega (arith, ap (λ (xs : List (List ℕ)). length xs) all), omega arith, refuses_begin c.args.session.now c.args.session.now _ _ refl all)

pub overflow_add-count : goal.overflow_add-count
overflow_add-count c =
    let left = ap (λ (xs : List (List ℕ)). length xs) c.in-Some.ensures.steps.first in
    omega (arith, left, c.loop-line.invariant.2, lines_count c.args.script.now, c.requires)

pub overflow_add-refused : goal.overflow_add-refused
overflow_add-refused c =
    let left = ap (λ (xs : List (List ℕ)). length xs) c.in-Some.ensures.steps.first in
    omega (arith, left, c.loop-line.invariant.2, c.loop-line.invariant.3, c.in_ok-refused.ensures.small, lines_count c.args.script.now, c.requires)

pub loop-line-preserved : goal.loop-line-preserved
loop-line-preserved c =
    let told = c.in_ok-refused.ensures.count in
    let left = ap (λ (xs : List (List ℕ)). length xs) c.in-Some.ensures.steps.first in
    let more = ap (λ (k : ℕ). c.loop-line.refused + k) told.2 in (
      tt,
      tt,
      omega (arith, left, c.loop-line.invariant.2),
      omega (arith, c.loop-line.invariant.3, c.in_ok-refused.ensures.small),
      refuses_more _ _ _ _ _ _ _ _ _ told.0 c.in-Some.ensures.steps.first told.1 more c.loop-line.invariant.4,
    )

pub returns : goal.returns
returns c =
    let none = ap (λ (xs : List (List ℕ)). length xs) c.in-None.ensures.steps.first.0 in
    record {
      count = omega (arith, none, c.loop-line.invariant.2);
      run = refuses_end _ _ _ _ _ c.in-None.ensures.steps.first.0 c.loop-line.invariant.4;
    }
