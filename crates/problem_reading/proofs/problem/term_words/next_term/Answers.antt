use Rattle.problem_reading.proofs.Problems.Terms.{not_above}
use Rattle.problem_reading.proofs.problem.term_words.next_term.Goals as goal

pub returns-else-is_above-clause-none : goal.returns-else-is_above-clause-none
returns-else-is_above-clause-none c = λ t are is.
    not_above c.args.terms.now c.in_ok-term.term t c.args.word.now c.is_above.result c.in_ok-term.ensures.some.0 c.in_ok-term.ensures.some.1 c.is_above.ensures c.if-is_above.false are is
