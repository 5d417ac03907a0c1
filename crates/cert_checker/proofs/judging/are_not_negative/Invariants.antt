use Rattle.std.proofs.Common.{ℕ, Bool, All, take}
use Rattle.problem_core.specs.Layout.{lines}
use Rattle.problem_core.specs.Certificates.{Multipliers}
use Rattle.cert_checker.specs.Certifying.{IsNotNegative}
use Rattle.cert_checker.specs.Fronts.{AreFronts, AreKnown}
use Rattle.cert_checker.proofs.judging.are_not_negative.Given as goal

abbrev pub invariant-loop-at : goal.invariant-loop-at
invariant-loop-at l = (m : Multipliers) (seen : ℕ → ℕ → Bool) → AreKnown l.fn.p m seen → AreFronts l.fn.p m seen l.fn.sides → All (IsNotNegative m) (take l.at (lines l.fn.p))
