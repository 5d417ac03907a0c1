use Rattle.std.proofs.Common.{◌≡◌, ◌+◌, ◌-◌, length}
use Rattle.corner_table.specs.Reads.Listing.{AreFlagged}
use Rattle.corner_table.proofs.listing.Listed.push.Given as goal

abbrev pub invariant-loop-self : goal.invariant-loop-self
invariant-loop-self l = AreFlagged l.self-inside.lines.items l.self-inside.flags.items × (l.self-inside.lines.items ≡ l.initial.self-inside.lines.items)

abbrev pub decreases-loop-self : goal.decreases-loop-self
decreases-loop-self l = (l.line + 1) - length l.self-inside.flags.items
