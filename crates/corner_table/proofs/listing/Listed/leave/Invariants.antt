use Rattle.std.proofs.Common.{◌≢◌, ℕ, length, Contains}
use Rattle.corner_table.proofs.listing.Listed.leave.Given as goal

abbrev pub invariant-loop-i : goal.invariant-loop-i
invariant-loop-i l = ((w : ℕ) → w ≢ l.line → Contains l.initial.self w → Contains l.self w) × ((w : ℕ) → Contains l.self w → Contains l.initial.self w)

abbrev pub decreases-loop-i : goal.decreases-loop-i
decreases-loop-i l = length l.self
