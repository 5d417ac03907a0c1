use Rattle.std.proofs.Common.{pos, string_bytes}
use Rattle.claim_writing.specs.Lines.{term_word}
use Rattle.claim_writing.proofs.Texts.{spaced_more}
use Rattle.claim_writing.proofs.problem.line_writers.put_terms.Goals as goal

pub loop-term-preserved : goal.loop-term-preserved
loop-term-preserved c =
    spaced_more term_word (string_bytes c.put_term.new.text) (string_bytes c.args.text.now) (string_bytes c.loop-term.text) c.args.terms.now c.loop-term.term-index (record { attr = 0; by = pos 0 }) c.loop-term-test.true c.loop-term.invariant c.in_ok-put_term.ensures
