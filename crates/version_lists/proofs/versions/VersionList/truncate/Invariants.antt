use Rattle.std.proofs.Common.{◌≡◌, ◌≤◌, length, take}
use Rattle.version_lists.proofs.versions.VersionList.truncate.Given as goal

abbrev pub invariant-loop-count : goal.invariant-loop-count
invariant-loop-count g l = record {
  count : l.count ≡ length l.self.items;
  least : l.len ≤ l.count;
  items : take l.len l.self.items ≡ take l.len l.fn.self.items;
  before : l.self.before ≡ l.fn.self.before;
}

abbrev pub decreases-loop-count : goal.decreases-loop-count
decreases-loop-count g l = l.count
