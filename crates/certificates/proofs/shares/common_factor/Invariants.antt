use Rattle.std.proofs.Common.{take}
use Rattle.certificates.proofs.Factors.{Factored}
use Rattle.certificates.proofs.shares.common_factor.Given as goal

abbrev pub invariant-loop-b : goal.invariant-loop-b
invariant-loop-b l = Factored l.scale (take l.b-index l.by) l.factor
