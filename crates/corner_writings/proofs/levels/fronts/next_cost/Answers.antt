use Rattle.std.proofs.Common.{◌<◌}
use Rattle.frac_core.proofs.Bools.{not-both as not_both}
use Rattle.corner_table.specs.Kept.{HasCost}
use Rattle.corner_table.specs.Tables.{lists_of}
use Rattle.corner_writings.proofs.LevelFacts.LevelFrontFacts.{none_more}
use Rattle.corner_writings.proofs.LevelFacts.LowestFronts.{next_met, none_above}
use Rattle.corner_writings.proofs.levels.fronts.next_cost.Goals as goal

pub returns-then-is_cost_above-clause-some : goal.returns-then-is_cost_above-clause-some
returns-then-is_cost_above-clause-some c =
    next_met (lists_of c.args.table.now) c.args.line c.args.l c.column-n-items.result.now c.loop-n.n-index (c.is_cost_above.ensures.0 c.if-is_cost_above.true) c.column-n-items.ensures.value.rising c.loop-n-test.true
    (λ m nonzero. (c.column-n-items.ensures.value.exact m).1 nonzero) c.loop-n.invariant

pub loop-n-preserved : goal.loop-n-preserved
loop-n-preserved c =
    none_more (λ v. (c.args.l < v) × HasCost (lists_of c.args.table.now) v) c.column-n-items.result.now c.loop-n.n-index c.loop-n.invariant (λ h. not_both c.is_cost_above.result (c.is_cost_above.ensures.1 h) c.if-is_cost_above.false)

pub returns-clause-none : goal.returns-clause-none
returns-clause-none c =
    none_above (lists_of c.args.table.now) c.args.line c.args.l c.column-n-items.result.now c.loop-n.n-index c.loop-n-test.false
    (λ m nonzero. (c.column-n-items.ensures.value.exact m).1 nonzero) c.loop-n.invariant
