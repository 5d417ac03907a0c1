use Rattle.std.proofs.Common.{All, take}
use Rattle.problem_core.specs.Layout.{HasStay}
use Rattle.cert_checker.proofs.valued.have_stays.Given as goal

abbrev pub invariant-loop-attr : goal.invariant-loop-attr
invariant-loop-attr l = All (λ v. HasStay l.fn.stays v.0) (take l.attr-index l.fn.values)
