use Rattle.std.proofs.Common.{◌∙◌}
use Rattle.version_lists.proofs.Relisting.{same_then}
use Rattle.version_lists.proofs.rows.lists.relist.Goals as goal

pub loop-at-preserved : goal.loop-at-preserved
loop-at-preserved c = record {
  relisted = c.in_ok-at.ensures.relisted;
  same = same_then c.args.change.now.w c.args.lists.now.items c.loop-at.lists.items c.step.new.lists.items c.loop-at.invariant.same c.in_ok-at.ensures.same;
  before = c.in_ok-at.ensures.before ∙ c.loop-at.invariant.before;
}
