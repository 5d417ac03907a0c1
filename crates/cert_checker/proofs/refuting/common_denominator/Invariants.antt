use Rattle.std.proofs.Common.{◌<◌, ◌^◌, take}
use Rattle.cert_checker.specs.Required.{denominators}
use Rattle.problem_core.specs.Common.{IsLeastCommon}
use Rattle.cert_checker.proofs.refuting.common_denominator.Given as goal

abbrev pub invariant-loop-line : goal.invariant-loop-line
invariant-loop-line l = record {
  least : IsLeastCommon (denominators l.fn.p (take l.line-index l.weighted)) l.common;
  small : l.common < 2 ^ 30;
}
