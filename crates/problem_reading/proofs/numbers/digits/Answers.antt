use Rattle.std.proofs.Common.{rules, arith, take, length, ◌≤◌, get_or}
use Rattle.std.specs.Char.{IsAsciiDigit}
use Rattle.std.proofs.lemmas.Grind.{common_steps}
use Rattle.std.proofs.lemmas.List.Elements.{All-more}
use Rattle.problem_reading.proofs.Numerals.Digits.{short_value, next_digit}
use Rattle.problem_reading.proofs.numbers.digits.Goals as goal

pub overflow_mul-value : goal.overflow_mul-value
overflow_mul-value c =
    let front = take c.loop-digit.digit-index c.args.word.now in
    let few : length front ≤ 18 = grind (arith, common_steps) in
    omega (arith, short_value front 18 c.loop-digit.invariant.digits few)

pub overflow_add-value : goal.overflow_add-value
overflow_add-value c =
    let front = take c.loop-digit.digit-index c.args.word.now in
    let few : length front ≤ 18 = grind (arith, common_steps) in
    omega (arith, short_value front 18 c.loop-digit.invariant.digits few, c.from.ensures)

pub loop-digit-preserved : goal.loop-digit-preserved
loop-digit-preserved c =
    let digit : IsAsciiDigit (get_or c.args.word.now c.loop-digit.digit-index 0) = search rules in
    record {
      digits = All-more IsAsciiDigit c.args.word.now c.loop-digit.digit-index 0 c.loop-digit-test.true c.loop-digit.invariant.digits digit;
      value_is = rw c.from.ensures (next_digit c.args.word.now c.loop-digit.digit-index c.loop-digit.value c.loop-digit-test.true c.loop-digit.invariant.value_is digit);
    }
