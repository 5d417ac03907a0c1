use Rattle.std.proofs.Common.{◌≡◌, ◌+◌, ◌-◌, length, map, slice_index_or, take}
use Rattle.corner_table.specs.Reads.Listing.{AreFlagged}
use Rattle.corner_table.proofs.listing.Listed.rename.Given as goal

abbrev pub invariant-loop-line : goal.invariant-loop-line
invariant-loop-line l = record {
  flagged : AreFlagged l.lines.items l.flags.items;
  lines : l.lines.items ≡ map (λ w. slice_index_or l.fn.places w 0) (take l.line-index l.fn.self);
}

abbrev pub invariant-loop-flags : goal.invariant-loop-flags
invariant-loop-flags l = AreFlagged l.lines.items l.flags.items

abbrev pub decreases-loop-flags : goal.decreases-loop-flags
decreases-loop-flags l = (l.place + 1) - length l.flags.items
