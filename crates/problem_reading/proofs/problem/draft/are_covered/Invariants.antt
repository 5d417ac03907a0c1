use Rattle.std.proofs.Common.{take, All}
use Rattle.std.specs.Prelude.{Contains}
use Rattle.problem_reading.proofs.problem.draft.are_covered.Given as goal

abbrev pub invariant-loop-term : goal.invariant-loop-term
invariant-loop-term l = All (λ t. Contains l.covered t.attr) (take l.term-index l.terms)
