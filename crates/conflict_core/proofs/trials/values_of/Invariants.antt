use Rattle.std.proofs.Common.{◌≡◌, map, take}
use Rattle.problem_core.specs.Gaps.{value_of}
use Rattle.conflict_core.proofs.trials.values_of.Given as goal

abbrev pub invariant-loop-attr : goal.invariant-loop-attr
invariant-loop-attr g l = l.pairs.items ≡ map (λ a. (a, value_of l.e.values a)) (take l.attr-index l.attrs)
