use Rattle.std.proofs.Common.{ℕ, Bool, All, take}
use Rattle.problem_core.specs.Layout.{Assignment, Gives, gap, lines}
use Rattle.problem_core.specs.Certificates.{Multipliers, under, over}
use Rattle.cert_checker.specs.Certifying.{IsFree}
use Rattle.cert_checker.specs.Fronts.{AreFronts, AreKnown}
use Rattle.cert_checker.proofs.judging.are_free.Given as goal

abbrev pub invariant-loop-at : goal.invariant-loop-at
invariant-loop-at l = (m : Multipliers) (seen : ℕ → ℕ → Bool) (x : Assignment) → AreKnown l.fn.p m seen → AreFronts l.fn.p m seen l.fn.sides → Gives l.fn.values x → All (λ n. IsFree (under m n) (over m n) (gap x n)) (take l.at (lines l.fn.p))
