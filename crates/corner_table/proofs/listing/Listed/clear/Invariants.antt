use Rattle.std.proofs.Common.{length}
use Rattle.corner_table.specs.Reads.Listing.{AreFlagged}
use Rattle.corner_table.proofs.listing.Listed.clear.Given as goal

abbrev pub invariant-loop-line : goal.invariant-loop-line
invariant-loop-line l = AreFlagged l.self-inside.lines.items l.self-inside.flags.items

abbrev pub decreases-loop-line : goal.decreases-loop-line
decreases-loop-line l = length l.self-inside.lines.items
