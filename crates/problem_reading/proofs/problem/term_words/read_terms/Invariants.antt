use Rattle.std.proofs.Common.{◌≡◌, ◌++◌, length, map}
use Rattle.claim_writing.specs.Lines.{term_word}
use Rattle.problem_reading.specs.RowParts.{AreTerms}
use Rattle.problem_reading.proofs.problem.term_words.read_terms.Given as goal

abbrev pub invariant-loop-word : goal.invariant-loop-word
invariant-loop-word l = record {
  are : AreTerms l.terms.items;
  said : l.fn.words ≡ map term_word l.terms.items ++ l.words;
}

abbrev pub decreases-loop-word : goal.decreases-loop-word
decreases-loop-word l = length l.words
