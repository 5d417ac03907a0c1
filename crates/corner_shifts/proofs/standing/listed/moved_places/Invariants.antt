use Rattle.std.proofs.Common.{◌<◌, length, All}
use Rattle.corner_table.specs.Tables.{lists_of}
use Rattle.corner_shifts.proofs.Stays.ListedStays.{ArePlaced}
use Rattle.corner_shifts.proofs.standing.listed.moved_places.Given as goal

abbrev pub invariant-loop-k : goal.invariant-loop-k
invariant-loop-k l = record {
  within : All (λ i. i < length l.table.stays.items) l.places.items;
  has : ArePlaced (lists_of l.table) l.lines l.k l.places.items;
}
