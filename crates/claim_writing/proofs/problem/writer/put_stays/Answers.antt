use Rattle.std.proofs.Common.{string_bytes}
use Rattle.claim_writing.specs.Lines.{stay_line}
use Rattle.claim_writing.proofs.Texts.{text_item}
use Rattle.claim_writing.proofs.problem.writer.put_stays.Goals as goal

pub loop-stay-preserved : goal.loop-stay-preserved
loop-stay-preserved c =
    text_item stay_line (string_bytes c.put_stay.new.text) (string_bytes c.args.text.now) (string_bytes c.loop-stay.text) c.args.stays.now c.loop-stay.stay-index c.stay-item.result c.loop-stay-test.true c.stay-item.is c.loop-stay.invariant c.in_ok-put_stay.ensures
