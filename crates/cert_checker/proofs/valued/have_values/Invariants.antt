use Rattle.std.proofs.Common.{All, take}
use Rattle.problem_core.specs.Gaps.{HasValue}
use Rattle.cert_checker.proofs.valued.have_values.Given as goal

abbrev pub invariant-loop-stay : goal.invariant-loop-stay
invariant-loop-stay l = All (λ s. HasValue l.fn.values s.attr) (take l.stay-index l.stays)
