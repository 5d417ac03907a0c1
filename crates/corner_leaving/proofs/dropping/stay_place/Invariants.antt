use Rattle.std.proofs.Common.{◌≢◌, ℕ, ◌<◌, slice_index_or}
use Rattle.problem_core.specs.declared.parts.Stay.{Stay}
use Rattle.corner_leaving.proofs.dropping.stay_place.Given as goal

abbrev pub invariant-loop-i : goal.invariant-loop-i
invariant-loop-i l = (k : ℕ) (s : Stay) → k < l.i → (slice_index_or l.table.stays.items k s).attr ≢ l.attr
