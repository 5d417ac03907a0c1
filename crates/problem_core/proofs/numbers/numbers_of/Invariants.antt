use Rattle.std.proofs.Common.{◌≡◌, map, take}
use Rattle.problem_core.proofs.numbers.numbers_of.Given as goal

abbrev pub invariant-loop-stay : goal.invariant-loop-stay
invariant-loop-stay l = l.attrs.items ≡ map (λ s. s.attr) (take l.stay-index l.stays)
