use Rattle.std.proofs.Common.{ℕ, inl, inr, subst, arith, take, All}
use Rattle.std.proofs.lemmas.List.Elements.{All-take}
use Rattle.std.proofs.lemmas.Nat.Gcd.{dvd-zero}
use Rattle.std.proofs.Math.Nat.{one-dvd}
use Rattle.corner_ends.specs.Shares.{IsDivisor}
use Rattle.corner_ends.proofs.RequiredTimes.{same_item, same_past, same_within}
use Rattle.corner_ends.proofs.SharedTimes.{divisors_weaker}
use Rattle.corner_ends.proofs.ShownTimes.{greatest_parts}
use Rattle.corner_ends.proofs.conflicts.common_factor.Goals as goal
use Rattle.frac_core.proofs.Lists.{all-whole as all_done, all-more as all_more}

pub loop-row-preserved : goal.loop-row-preserved
loop-row-preserved g c = record {
  small = c.shared_by-factor.ensures.small;
  divides = λ y are. all_more (IsDivisor c.shared_by-factor.result y) c.args.c.now.problem.rows c.loop-row.row-index c.row-item.result (same_within c.rows-row-items.result.now c.args.c.now.problem.rows c.loop-row.row-index c.rows-row-items.ensures c.loop-row-test.true) (same_item c.rows-row-items.result.now c.args.c.now.problem.rows c.loop-row.row-index c.row-item.result c.rows-row-items.ensures c.row-item.is)
      (divisors_weaker c.shared_by-factor.result c.loop-row.factor y (take c.loop-row.row-index c.args.c.now.problem.rows) c.shared_by-factor.ensures.factor (c.loop-row.invariant.divides y are))
      (c.shared_by-factor.ensures.times y are);
  greatest = λ y are k each.
      let parts = greatest_parts k y c.args.c.now.problem.rows c.loop-row.row-index c.row-item.result (same_within c.rows-row-items.result.now c.args.c.now.problem.rows c.loop-row.row-index c.rows-row-items.ensures c.loop-row-test.true) (same_item c.rows-row-items.result.now c.args.c.now.problem.rows c.loop-row.row-index c.row-item.result c.rows-row-items.ensures c.row-item.is) each in
      c.shared_by-factor.ensures.greatest y are k (c.loop-row.invariant.greatest y are k parts.0) parts.1;
}

pub loop-row-init : goal.loop-row-init
loop-row-init g c = record {
  small = omega arith;
  divides = λ y are k d within. absurd (omega (arith, within));
  greatest = λ y are k each. dvd-zero k;
}

pub returns-then-factor-eq0-clause-greatest : goal.returns-then-factor-eq0-clause-greatest
returns-then-factor-eq0-clause-greatest g c = λ y are.
    inl (subst (λ (g : ℕ). All (IsDivisor g y) c.args.c.now.problem.rows) c.if-factor-eq0.true (all_done (IsDivisor c.loop-row.factor y) c.args.c.now.problem.rows c.loop-row.row-index (same_past c.rows-row-items.result.now c.args.c.now.problem.rows c.loop-row.row-index c.rows-row-items.ensures c.loop-row-test.false) (c.loop-row.invariant.divides y are)))

pub returns-else-factor-eq0-clause-greatest : goal.returns-else-factor-eq0-clause-greatest
returns-else-factor-eq0-clause-greatest g c = λ y are.
    inr (λ k each. c.loop-row.invariant.greatest y are k (All-take (IsDivisor k y) c.loop-row.row-index c.args.c.now.problem.rows each))

pub returns-then-factor-eq0-clause-divides : goal.returns-then-factor-eq0-clause-divides
returns-then-factor-eq0-clause-divides g c = λ y are k d within rank. one-dvd _

pub returns-else-factor-eq0-clause-divides : goal.returns-else-factor-eq0-clause-divides
returns-else-factor-eq0-clause-divides g c = λ y are. all_done (IsDivisor c.loop-row.factor y) c.args.c.now.problem.rows c.loop-row.row-index (same_past c.rows-row-items.result.now c.args.c.now.problem.rows c.loop-row.row-index c.rows-row-items.ensures c.loop-row-test.false) (c.loop-row.invariant.divides y are)
