use Rattle.std.proofs.Common.{◌≡◌, take, All}
use Rattle.std.specs.Char.{IsAsciiDigit}
use Rattle.std.specs.Str.Parse.{digits_value}
use Rattle.problem_reading.proofs.numbers.digits.Given as goal

abbrev pub invariant-loop-digit : goal.invariant-loop-digit
invariant-loop-digit l = record {
  digits : All IsAsciiDigit (take l.digit-index l.word);
  value_is : l.value ≡ digits_value 10 (take l.digit-index l.word);
}
