use Rattle.std.proofs.Common.{◌≡◌, ℕ, ◌+◌, ◌<◌, length, slice_index_or, None}
use Rattle.path_lines.specs.Numbering.{entry, number_of}
use Rattle.path_claims.proofs.numbering.leaves.Given as goal

abbrev pub invariant-loop-side : goal.invariant-loop-side
invariant-loop-side l = record {
  count : length l.nodes.items ≡ length l.sides + l.side-index;
  leaves : (k : ℕ) → k < l.side-index → entry l.nodes.items (length l.sides + k) ≡ number_of (slice_index_or l.sides k None);
}
