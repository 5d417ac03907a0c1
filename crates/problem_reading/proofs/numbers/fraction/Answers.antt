use Rattle.problem_reading.proofs.Maybe.{none_from}
use Rattle.problem_reading.proofs.Numerals.Lowest.{whole_none, quotient_none}
use Rattle.problem_reading.proofs.numbers.fraction.Goals as goal

pub returns-in-None-clause-none : goal.returns-in-None-clause-none
returns-in-None-clause-none c = none_from c.whole.result (λ none. whole_none c.args.word.now c.first_part-cut.result.part.now (rw c.in-None.is at c.first_part-cut.ensures.parts) none) c.whole.ensures.none

pub returns-in-Some-clause-none : goal.returns-in-Some-clause-none
returns-in-Some-clause-none c = none_from c.quotient.result (λ none. quotient_none c.args.word.now c.first_part-cut.result.part.now c.in-Some.rest.now (rw c.in-Some.is at c.first_part-cut.ensures.parts) none) c.quotient.ensures.none
