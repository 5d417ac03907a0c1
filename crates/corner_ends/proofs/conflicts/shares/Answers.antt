use Rattle.std.proofs.Common.{List, ◌++◌, ◌∷◌, [], ◌∙◌, take, sym, ap, subst}
use Rattle.std.proofs.lemmas.List.{take_all, take_more}
use Rattle.problem_core.specs.Layout.{Row}
use Rattle.corner_ends.specs.Shares.{AreShares, IsDivisor}
use Rattle.corner_ends.proofs.RequiredTimes.{same_item, same_past, same_within}
use Rattle.corner_ends.proofs.SharedTimes.{ids_below}
use Rattle.corner_ends.proofs.conflicts.shares.Goals as goal

pub push_share-requires-clause-divides : goal.push_share-requires-clause-divides
push_share-requires-clause-divides g c = λ y are.
    subst (λ (r : Row). IsDivisor c.common_factor-factor.result y r) (sym (same_item c.rows-row-items.result.now c.args.c.now.problem.rows c.loop-row.row-index c.row-item.result c.rows-row-items.ensures c.row-item.is)) (c.common_factor-factor.ensures.divides y are c.loop-row.row-index c.row-item.result (same_within c.rows-row-items.result.now c.args.c.now.problem.rows c.loop-row.row-index c.rows-row-items.ensures c.loop-row-test.true))

pub loop-row-preserved : goal.loop-row-preserved
loop-row-preserved g c = λ y are.
    subst (λ (rows : List Row). AreShares y c.common_factor-factor.result rows c.push_share.new.out.items)
    (ap (λ (r : Row). take c.loop-row.row-index c.args.c.now.problem.rows ++ r ∷ []) (same_item c.rows-row-items.result.now c.args.c.now.problem.rows c.loop-row.row-index c.row-item.result c.rows-row-items.ensures c.row-item.is) ∙ sym (take_more c.args.c.now.problem.rows c.loop-row.row-index c.row-item.result (same_within c.rows-row-items.result.now c.args.c.now.problem.rows c.loop-row.row-index c.rows-row-items.ensures c.loop-row-test.true)))
    (c.in_ok-push_share.ensures y are (take c.loop-row.row-index c.args.c.now.problem.rows) (ids_below c.args.c.now.problem.rows c.loop-row.row-index c.row-item.result c.show_corner.ensures.kept.whole.rising (same_within c.rows-row-items.result.now c.args.c.now.problem.rows c.loop-row.row-index c.rows-row-items.ensures c.loop-row-test.true) (same_item c.rows-row-items.result.now c.args.c.now.problem.rows c.loop-row.row-index c.row-item.result c.rows-row-items.ensures c.row-item.is)) (c.loop-row.invariant y are))

pub returns : goal.returns
returns g c = λ y are. (
  c.common_factor-factor.result,
  c.common_factor-factor.ensures.above,
  c.common_factor-factor.ensures.greatest y are,
  subst (λ (rows : List Row). AreShares y c.common_factor-factor.result rows c.loop-row.out.items) (take_all c.loop-row.row-index c.args.c.now.problem.rows (same_past c.rows-row-items.result.now c.args.c.now.problem.rows c.loop-row.row-index c.rows-row-items.ensures c.loop-row-test.false)) (c.loop-row.invariant y are),
)
