use Rattle.std.proofs.Common.{ℕ, get_or, length}
use Rattle.problem_core.specs.declared.parts.Side.{Side}
use Rattle.path_levels.specs.Costs.{IsNegativeFirst}
use Rattle.path_levels.specs.Exchanges.WideCosts.{wide_cost}
use Rattle.path_levels.proofs.Judging.LineCosts.{over_is, under_is}
use Rattle.path_levels.proofs.columns_after.has_negative_first_after.Goals as goal

pub returns-then-is_negative_first_after-clause-first : goal.returns-then-is_negative_first_after-clause-first
returns-then-is_negative_first_after-clause-first c = λ d.
    under_is (λ (side : Side). IsNegativeFirst (length c.args.next.now) (λ (k : ℕ). wide_cost side c.args.facts.now c.args.at k (get_or c.args.next.now k d))) c.is_negative_first_after.result c.if-is_negative_first_after.true
    (c.is_negative_first_after.ensures.first d)

pub returns-else-is_negative_first_after-clause-first : goal.returns-else-is_negative_first_after-clause-first
returns-else-is_negative_first_after-clause-first c = λ d.
    over_is (λ (side : Side). IsNegativeFirst (length c.args.next.now) (λ (k : ℕ). wide_cost side c.args.facts.now c.args.at k (get_or c.args.next.now k d))) c.is_negative_first_after.result c.is_negative_first_after-else-is_negative_first_after.result
    c.if-is_negative_first_after.false (c.is_negative_first_after.ensures.first d) (c.is_negative_first_after-else-is_negative_first_after.ensures.first d)
