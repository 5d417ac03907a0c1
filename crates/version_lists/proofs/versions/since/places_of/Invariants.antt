use Rattle.std.proofs.Common.{◌≡◌, map, take}
use Rattle.version_lists.proofs.versions.since.places_of.Given as goal

abbrev pub invariant-loop-one : goal.invariant-loop-one
invariant-loop-one g l = l.out.items ≡ map (λ r. r.at) (take l.one-index l.replaced)
