use Rattle.std.proofs.Common.{rules}
use Rattle.span_text.proofs.TextCuts.TokenCuts.{other_is, cut_boundary}
use Rattle.span_text.proofs.token.char_len.Goals as goal

pub returns-clause-boundary : goal.returns-clause-boundary
returns-clause-boundary c = cut_boundary c.args.text.now c.as_str.result.now c.in-Some.field-0 (search rules) c.as_str.utf8

pub returns-clause-other : goal.returns-clause-other
returns-clause-other c = other_is c.args.text.now c.as_str.result.now c.in-Some.field-0 (search rules) c.requires.no_word c.requires.no_space c.requires.no_relation
