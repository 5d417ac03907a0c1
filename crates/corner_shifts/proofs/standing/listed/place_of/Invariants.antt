use Rattle.std.proofs.Common.{◌≤◌, ◌-◌, length}
use Rattle.corner_shifts.proofs.standing.listed.place_of.Given as goal

abbrev pub invariant-loop-low : goal.invariant-loop-low
invariant-loop-low l = l.high ≤ length l.table.stays.items

abbrev pub decreases-loop-low : goal.decreases-loop-low
decreases-loop-low l = l.high - l.low
