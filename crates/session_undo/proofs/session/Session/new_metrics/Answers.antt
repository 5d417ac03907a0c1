use Rattle.std.proofs.Common.{◌≡◌}
use Rattle.view_tree.specs.Views.{view_named}
use Rattle.scenes.specs.Scene.{metrics_with}
use Rattle.session_undo.specs.Adding.{NoEnd}
use Rattle.session_undo.specs.Kept.{session_at}
use Rattle.session_undo.proofs.Commands.Chains.{IsNamed, metric-lacks, unfound}
use Rattle.scenes.proofs.MetricChanges.{other-metrics}
use Rattle.session_undo.proofs.session.Session.new_metrics.Goals as goal

pub changes_for-requires : goal.changes_for-requires
changes_for-requires g c =
    let made : c.in-Some.metrics ≡ metrics_with c.self.inside.scene.scene.metrics c.args.name.now c.args.value = rw (c.in-Some.is, ← c.self.view_is) at c.in_ok-metrics.ensures.made in
    rw (c.get.ensures, made) (other-metrics c.self.inside.scene.scene.metrics c.args.name.now c.args.value)

pub returns-in-Err-Refused-clause-refused : goal.returns-in-Err-Refused-clause-refused
returns-in-Err-Refused-clause-refused g c =
    let old = (session_at c.self.inside.scene c.self.inside.budget c.self.inside.limits c.self.inside.version) in
    let named : IsNamed old c.args.name.now c.args.value c.in-Some.metrics = record {
      free = unfound (λ id. id.0) (λ v. v.id) c.find.result (view_named c.self.inside.scene.scene.tree.views c.args.name.now) (rw c.tree.ensures at c.find.ensures) c.if-is_some.ensures;
      short = c.if-name-gt-NAME_LIMIT.false;
      room = rw (c.in-Some.is, ← c.self.view_is) at c.in_ok-metrics.ensures.room;
      new_is = rw (c.in-Some.is, ← c.self.view_is) at c.in_ok-metrics.ensures.made;
    } in
    rw (← c.self.view_is) (metric-lacks old c.args.name.now c.args.value c.in-Some.metrics NoEnd (record {}) named (rw (c.in-Err-Refused.field-0-is, c.get.ensures) at c.in-Err-Refused.ensures.stop))
