use Rattle.std.proofs.Common.{string_bytes}
use Rattle.claim_writing.specs.PathTexts.{swap_line}
use Rattle.claim_writing.proofs.Texts.{text_item}
use Rattle.claim_writing.proofs.claim.path_writer.put_swaps.Goals as goal

pub loop-swap-preserved : goal.loop-swap-preserved
loop-swap-preserved c =
    text_item swap_line (string_bytes c.put_swap.new.text) (string_bytes c.args.text.now) (string_bytes c.loop-swap.text) c.args.swaps.now c.loop-swap.swap-index c.swap-item.result c.loop-swap-test.true c.swap-item.is c.loop-swap.invariant c.in_ok-put_swap.ensures
