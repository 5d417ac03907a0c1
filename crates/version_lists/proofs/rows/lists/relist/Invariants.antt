use Rattle.std.proofs.Common.{◌≡◌, length, ◌-◌, ◌+◌}
use Rattle.version_lists.specs.Lists.{IsSameBut}
use Rattle.version_lists.specs.Walks.{IsRelisted}
use Rattle.version_lists.proofs.rows.lists.relist.Given as goal

abbrev pub invariant-loop-at : goal.invariant-loop-at
invariant-loop-at l = record {
  relisted : IsRelisted l.change l.at.old l.at.new l.lists.items;
  same : IsSameBut l.change.w l.fn.lists.items l.lists.items;
  before : l.lists.before ≡ l.fn.lists.before;
}

abbrev pub decreases-loop-at : goal.decreases-loop-at
decreases-loop-at l = (length l.change.old.now + length l.change.new.now) - (l.at.old + l.at.new)
