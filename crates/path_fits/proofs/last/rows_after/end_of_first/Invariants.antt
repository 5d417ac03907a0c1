use Rattle.std.proofs.Common.{◌≡◌, ◌≤◌, take}
use Rattle.path_fits.specs.FirstLines.{size_in}
use Rattle.path_fits.proofs.last.rows_after.end_of_first.Given as goal

abbrev pub invariant-loop-at : goal.invariant-loop-at
invariant-loop-at l = record {
  count_is : l.count ≡ size_in l.place (take l.at l.lines);
  few : l.count ≤ l.first;
}
