use Rattle.std.proofs.Common.{map, ◌∙◌}
use Rattle.claim_writing.specs.Lines.{term_word}
use Rattle.problem_reading.proofs.Problems.Heads.{head_of, head_is, words_in_two}
use Rattle.problem_reading.proofs.problem.row_lines.read_row.Goals as goal

pub returns-in_default-clause-none : goal.returns-in_default-clause-none
returns-in_default-clause-none c = λ r is words.
    c.in_default.ensures.none (head_of r) (map term_word r.terms) (head_is r is) (c.of-words.ensures ∙ (words ∙ words_in_two r))
