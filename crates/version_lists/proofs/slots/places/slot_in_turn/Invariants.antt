use Rattle.std.proofs.Common.{[], ◌-◌, ◌+◌, slice_index_or}
use Rattle.version_lists.proofs.Searches.{IsLater}
use Rattle.version_lists.proofs.slots.places.slot_in_turn.Given as goal

abbrev pub invariant-loop-one : goal.invariant-loop-one
invariant-loop-one l = IsLater (slice_index_or l.kept.before 0 []) l.number l.i

abbrev pub decreases-loop-one : goal.decreases-loop-one
decreases-loop-one l = (l.number + 1) - l.i
