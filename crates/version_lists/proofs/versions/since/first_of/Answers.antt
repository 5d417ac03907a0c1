use Rattle.std.proofs.Common.{◌∙◌}
use Rattle.version_lists.proofs.SinceLemmas.{first_read, others_read}
use Rattle.version_lists.proofs.versions.since.first_of.Goals as goal

pub returns-then-one-at-clause-some : goal.returns-then-one-at-clause-some
returns-then-one-at-clause-some g c =
    λ xs all.
    c.loop-one.invariant xs
    ∙ first_read c.args.replaced.now c.loop-one.one-index c.one-item.result xs c.args.at c.loop-one-test.true c.one-item.is c.if-one-at.true all

pub loop-one-preserved : goal.loop-one-preserved
loop-one-preserved g c =
    λ xs.
    c.loop-one.invariant xs
    ∙ others_read c.args.replaced.now c.loop-one.one-index c.one-item.result xs c.args.at c.loop-one-test.true c.one-item.is c.if-one-at.false
