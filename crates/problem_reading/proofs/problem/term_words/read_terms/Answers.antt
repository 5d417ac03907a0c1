use Rattle.problem_reading.proofs.Problems.Terms.{stuck}
use Rattle.problem_reading.proofs.problem.term_words.read_terms.Goals as goal

pub returns-in_default-next_term-clause-none : goal.returns-in_default-next_term-clause-none
returns-in_default-next_term-clause-none c =
    stuck c.args.words.now c.loop-word.words c.in-Some.word.now c.next.new.self c.loop-word.terms.items c.loop-word.invariant.said c.in-Some.ensures c.loop-word.invariant.are
    (rw c.deref.ensures.value at c.in_default-next_term.ensures.none)
