use Rattle.std.proofs.Common.{◌≡◌, ◌++◌, take, map, string_bytes}
use Rattle.claim_writing.specs.Lines.{spaced, term_word}
use Rattle.claim_writing.proofs.problem.line_writers.put_terms.Given as goal

abbrev pub invariant-loop-term : goal.invariant-loop-term
invariant-loop-term l = string_bytes l.text ≡ string_bytes l.fn.text ++ spaced (map term_word (take l.term-index l.terms))
