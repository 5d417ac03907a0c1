use Rattle.std.proofs.Common.{◌≡◌, ◌≤◌, length}
use Rattle.version_lists.specs.Numbers.{ArePacked}
use Rattle.version_lists.proofs.slots.changes.pack.Given as goal

abbrev pub invariant-loop-i : goal.invariant-loop-i
invariant-loop-i l = record {
  packed : ArePacked l.places l.fn.kept.items l.i l.k l.kept.items;
  few : l.k ≤ l.i;
  long : length l.kept.items ≡ length l.fn.kept.items;
  before : l.kept.before ≡ l.fn.kept.before;
}
