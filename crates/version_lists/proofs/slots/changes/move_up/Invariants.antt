use Rattle.std.proofs.Common.{◌≡◌}
use Rattle.version_lists.proofs.Edits.{HasMoved}
use Rattle.version_lists.proofs.slots.changes.move_up.Given as goal

abbrev pub invariant-loop-kept : goal.invariant-loop-kept
invariant-loop-kept l = record {
  moved : HasMoved l.fn.kept.items l.fn.one l.i l.kept.items;
  before : l.kept.before ≡ l.fn.kept.before;
}

abbrev pub decreases-loop-kept : goal.decreases-loop-kept
decreases-loop-kept l = l.i
