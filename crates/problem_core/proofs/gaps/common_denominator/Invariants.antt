use Rattle.std.proofs.Common.{◌<◌, ◌^◌, take}
use Rattle.problem_core.specs.Common.{IsLeastCommon}
use Rattle.problem_core.specs.Gaps.{value_dens}
use Rattle.problem_core.proofs.gaps.common_denominator.Given as goal

abbrev pub invariant-loop-term : goal.invariant-loop-term
invariant-loop-term l = record {
  least : IsLeastCommon (value_dens l.fn.values (take l.term-index l.terms)) l.common;
  small : l.common < 2 ^ 62;
}
