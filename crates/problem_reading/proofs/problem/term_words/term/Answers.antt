use Rattle.problem_reading.proofs.Maybe.{none_from}
use Rattle.problem_reading.proofs.Problems.Terms.{no_colon, colon}
use Rattle.problem_reading.proofs.problem.term_words.term.Goals as goal

pub returns-in_err-cut-clause-none : goal.returns-in_err-cut-clause-none
returns-in_err-cut-clause-none c = rw c.from_residual.ensures (no_colon c.args.word.now c.first_part-cut.result.part.now (rw c.in_err-cut.was at c.first_part-cut.ensures.parts))

pub returns-clause-none : goal.returns-clause-none
returns-clause-none c = none_from c.product.result (λ none. colon c.args.word.now c.first_part-cut.result.part.now c.in_ok-cut.field-0.now (rw c.in_ok-cut.was at c.first_part-cut.ensures.parts) none) c.product.ensures.none
