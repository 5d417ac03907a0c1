use Rattle.corner_table.specs.Tables.{lists_of}
use Rattle.corner_table.specs.Histories.{HasSameHistory}
use Rattle.corner_shifts.specs.Stood.{AreFirstStood}
use Rattle.corner_shifts.proofs.Stays.ListedStays.{next_place}
use Rattle.corner_shifts.proofs.standing.listed.stand_at.Given as goal

abbrev pub invariant-loop-k : goal.invariant-loop-k
invariant-loop-k l = record {
  past : HasSameHistory l.fn.table l.table;
  lists : AreFirstStood (next_place (lists_of l.fn.table) l.places l.k) (lists_of l.fn.table) (lists_of l.table);
}
