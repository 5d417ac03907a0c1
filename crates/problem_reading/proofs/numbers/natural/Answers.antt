use Rattle.std.proofs.Common.{arith, ◌≡◌, sym, ◌∙◌}
use Rattle.problem_reading.proofs.Numerals.Digits.{same_value}
use Rattle.problem_reading.proofs.numbers.natural.Goals as goal
use Rattle.problem_reading.proofs.numbers.natural.Goals.{else-least-value-via-then-least-value+else-value-most, else-least-value-via-else-least-value}

pub returns-else-least-value-clause-none : goal.returns-else-least-value-clause-none
returns-else-least-value-clause-none c = λ n low high same.
    let is : c.in_ok-value.value ≡ n = same_value c.in_ok-value.value n c.in_ok-value.ensures.some.0 (omega arith) (sym c.in_ok-value.ensures.some.1 ∙ same) in
    elim c.else-least-value.branch [
      | else-least-value-via-then-least-value+else-value-most w ↦ omega arith
      | else-least-value-via-else-least-value w ↦ omega arith
    ]
