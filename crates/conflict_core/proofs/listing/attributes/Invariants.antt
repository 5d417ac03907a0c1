use Rattle.std.proofs.Common.{◌≡◌, map, take}
use Rattle.conflict_core.proofs.listing.attributes.Given as goal

abbrev pub invariant-loop-stay : goal.invariant-loop-stay
invariant-loop-stay l = l.out.items ≡ map (λ s. s.attr) (take l.stay-index l.p.stays)
