use Rattle.std.proofs.Common.{ℕ, List, sym, subst, arith}
use Rattle.frac_core.specs.Fraction.{Fraction}
use Rattle.diagnosis.specs.Costs.{AreCosts}
use Rattle.diagnosis.proofs.CostLists.{costs_none}
use Rattle.diagnosis.proofs.priorities.costs.Goals as goal

pub loop-rank-init : goal.loop-rank-init
loop-rank-init g c = record {
  some = omega arith;
  most = omega arith;
  are = subst (λ (costs : List (ℕ × Fraction)). AreCosts c.args.e.now.problem c.args.e.now.values 1000 costs) (sym c.new-out.ensures.items) (costs_none c.args.e.now.problem c.args.e.now.values);
}
