use Rattle.std.proofs.Common.{◌≡◌, ◌<◌, ℕ, List, Some, slice_get, true}
use Rattle.problem_core.specs.declared.parts.RowName.{RowName}
use Rattle.corner_view.specs.Entries.{AreEntries}
use Rattle.dual_run.specs.Entering.{IsBeforeLine, IsFound, IsFree}
use Rattle.dual_run.proofs.entering.least.Given as goal

abbrev pub invariant-loop-i : goal.invariant-loop-i
invariant-loop-i g l = record {
  found : IsFound l.c.problem l.c.marks l.leave l.found;
  free : l.is_free ≡ true → IsFree l.c.problem l.c.marks l.found.choice.mark;
  own : IsBeforeLine l.c.problem l.c.marks l.leave l.found.choice l.leave.row;
  least : (names : List RowName) → AreEntries l.c l.leave names → (k : ℕ) (name : RowName) → k < l.i → slice_get names k ≡ Some name → IsBeforeLine l.c.problem l.c.marks l.leave l.found.choice name;
}
