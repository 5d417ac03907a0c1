use Rattle.std.proofs.Common.{string_bytes}
use Rattle.claim_writing.proofs.LevelTexts.{levels_item}
use Rattle.claim_writing.proofs.claim.writer.put_levels.Goals as goal

pub loop-level-preserved : goal.loop-level-preserved
loop-level-preserved c =
    levels_item (string_bytes c.put_whole_level.new.text) (string_bytes c.args.text.now) (string_bytes c.loop-level.text) c.args.levels.now c.loop-level.level-index c.level-item.result c.loop-level-test.true c.level-item.is c.loop-level.invariant c.in_ok-put_whole_level.ensures
