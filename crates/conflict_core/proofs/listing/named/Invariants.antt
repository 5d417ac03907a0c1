use Rattle.std.proofs.Common.{◌≡◌, take}
use Rattle.conflict_core.specs.Searches.{named}
use Rattle.conflict_core.proofs.listing.named.Given as goal

abbrev pub invariant-loop-by : goal.invariant-loop-by
invariant-loop-by l = l.out.items ≡ named (take l.by-index l.conflict)
