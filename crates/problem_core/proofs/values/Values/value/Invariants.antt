use Rattle.std.proofs.Common.{◌≡◌, drop}
use Rattle.problem_core.specs.Gaps.{value_of}
use Rattle.problem_core.proofs.values.Values.value.Given as goal

abbrev pub invariant-loop-number : goal.invariant-loop-number
invariant-loop-number l = value_of l.fn.self l.attr ≡ value_of (drop l.number-index l.fn.self) l.attr
