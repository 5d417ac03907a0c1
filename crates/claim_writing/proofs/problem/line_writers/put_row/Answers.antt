use Rattle.std.proofs.Common.{ap, ◌++◌, ◌∙◌, map, string_bytes}
use Rattle.claim_writing.specs.Lines.{spaced, term_word, head_line, row_line}
use Rattle.claim_writing.proofs.Texts.{put_in_three, row_line_is}
use Rattle.claim_writing.proofs.problem.line_writers.put_row.Goals as goal

pub returns : goal.returns
returns c =
    put_in_three (string_bytes c.args.text.now) (string_bytes c.put_head.new.text) (string_bytes c.put_terms.new.text) (string_bytes c.writeln.new.self) (head_line c.args.row.now) (spaced (map term_word c.args.row.now.terms)) (row_line c.args.row.now)
    c.in_ok-put_head.ensures (c.in_ok-put_terms.ensures ∙ ap (λ ts. string_bytes c.put_head.new.text ++ spaced (map term_word ts)) c.terms.ensures) c.in_ok-writeln.ensures.bytes (row_line_is c.args.row.now)
