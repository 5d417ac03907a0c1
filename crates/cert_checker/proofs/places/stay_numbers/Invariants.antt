use Rattle.std.proofs.Common.{◌≡◌, map, take}
use Rattle.cert_checker.proofs.places.stay_numbers.Given as goal

abbrev pub invariant-loop-stay : goal.invariant-loop-stay
invariant-loop-stay l = l.numbers.items ≡ map (λ s. s.attr) (take l.stay-index l.stays)
