use Rattle.std.proofs.Common.{string_bytes, map}
use Rattle.claim_writing.specs.Lines.{row_line, stay_line}
use Rattle.claim_writing.proofs.Texts.{problem_text_is}
use Rattle.claim_writing.proofs.problem.writer.text_of.Goals as goal

pub returns : goal.returns
returns c =
    problem_text_is (string_bytes c.put_rows.new.text) (string_bytes c.put_stays.new.text) (map row_line c.args.rows.now) (map stay_line c.args.stays.now)
    (rw c.new-text.ensures.bytes at c.in_ok-put_rows.ensures) c.in_ok-put_stays.ensures
