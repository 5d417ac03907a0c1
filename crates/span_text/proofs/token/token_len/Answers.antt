use Rattle.std.proofs.Common.{arith, rules, ◌≡◌, length}
use Rattle.span_text.specs.Classes.{is_word}
use Rattle.span_text.specs.Reading.{front}
use Rattle.span_text.proofs.TextCuts.TokenCuts.{front_none, run_boundary, run_token, relation_boundary, other_some}
use Rattle.span_text.proofs.token.token_len.Goals as goal

pub char_len-requires-clause-no_word : goal.char_len-requires-clause-no_word
char_len-requires-clause-no_word c = front_none is_word c.args.text.now (let e : c.word_len-run.result ≡ length (front is_word c.args.text.now) = search rules in omega arith)

pub returns-then-run-gt0-clause-boundary : goal.returns-then-run-gt0-clause-boundary
returns-then-run-gt0-clause-boundary c = run_boundary c.args.text.now c.word_len-run.result c.utf8.text (search rules)

pub returns-then-run-gt0-clause-token : goal.returns-then-run-gt0-clause-token
returns-then-run-gt0-clause-token c = run_token c.args.text.now c.word_len-run.result (omega arith) (search rules)

pub returns-then-begins_relation-clause-boundary : goal.returns-then-begins_relation-clause-boundary
returns-then-begins_relation-clause-boundary c = relation_boundary c.args.text.now c.utf8.text (search rules)

pub returns-else-begins_relation-clause-some : goal.returns-else-begins_relation-clause-some
returns-else-begins_relation-clause-some c = other_some _ _ _ c.char_len.ensures.other
