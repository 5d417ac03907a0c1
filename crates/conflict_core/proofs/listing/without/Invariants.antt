use Rattle.std.proofs.Common.{◌≡◌, take}
use Rattle.conflict_core.specs.Cores.{without}
use Rattle.conflict_core.proofs.listing.without.Given as goal

abbrev pub invariant-loop-other : goal.invariant-loop-other
invariant-loop-other l = l.out.items ≡ without l.id (take l.other-index l.ids)
