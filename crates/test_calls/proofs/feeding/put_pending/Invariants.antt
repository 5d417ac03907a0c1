use Rattle.std.proofs.Common.{length}
use Rattle.test_calls.proofs.feeding.put_pending.Given as goal

abbrev pub decreases-loop-piece : goal.decreases-loop-piece
decreases-loop-piece l = length l.feed.bytes
