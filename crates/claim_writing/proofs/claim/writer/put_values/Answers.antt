use Rattle.std.proofs.Common.{string_bytes}
use Rattle.claim_writing.specs.ClaimLines.{value_line}
use Rattle.claim_writing.proofs.Texts.{text_item}
use Rattle.claim_writing.proofs.claim.writer.put_values.Goals as goal

pub loop-pair-preserved : goal.loop-pair-preserved
loop-pair-preserved c =
    text_item value_line (string_bytes c.put_value.new.text) (string_bytes c.args.text.now) (string_bytes c.loop-pair.text) c.args.values.now c.loop-pair.pair-index c.pair-item.result c.loop-pair-test.true c.pair-item.is c.loop-pair.invariant c.in_ok-put_value.ensures
