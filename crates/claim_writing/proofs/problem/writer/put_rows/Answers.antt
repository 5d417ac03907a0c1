use Rattle.std.proofs.Common.{string_bytes}
use Rattle.claim_writing.specs.Lines.{row_line}
use Rattle.claim_writing.proofs.Texts.{text_item}
use Rattle.claim_writing.proofs.problem.writer.put_rows.Goals as goal

pub loop-row-preserved : goal.loop-row-preserved
loop-row-preserved c =
    text_item row_line (string_bytes c.put_row.new.text) (string_bytes c.args.text.now) (string_bytes c.loop-row.text) c.args.rows.now c.loop-row.row-index c.row-item.result c.loop-row-test.true c.row-item.is c.loop-row.invariant c.in_ok-put_row.ensures
