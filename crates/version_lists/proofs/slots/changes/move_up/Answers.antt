use Rattle.std.proofs.Common.{◌≡◌, ◌∙◌, ◌-◌, ◌<◌, suc, arith, subst, sym, slice_set}
use Rattle.version_lists.proofs.Edits.{HasMoved, before_place, changed_numbered, moved_all, moved_none, moved_numbered, moved_step, rising_if}
use Rattle.version_lists.proofs.slots.changes.move_up.Goals as goal

pub loop-kept-init : goal.loop-kept-init
loop-kept-init c = record {
  moved = moved_none c.args.kept.now.items c.push.new.self.items c.args.one c.len-i.result c.len-i.ensures c.in_ok-push.ensures.ok;
  before = c.push.ensures.before;
}

pub loop-kept-preserved : goal.loop-kept-preserved
loop-kept-preserved c =
    let after = c.is_after.ensures.after c.loop-kept-test.true in
    let above : 0 < c.loop-kept.i = after.0 in
    let place : c.loop-kept.i ≡ suc (c.loop-kept.i - 1) = omega (arith, above) in
    record {
      moved =
          subst (HasMoved c.args.kept.now.items c.args.one (c.loop-kept.i - 1)) (sym c.in_ok-put.ensures.ok)
          (moved_step c.args.kept.now.items c.loop-kept.kept.items c.as_slice.result.now c.args.one c.get-below.result.now c.loop-kept.i (c.loop-kept.i - 1) place
          c.loop-kept.invariant.moved c.requires.rising c.requires.absent c.get-below.ensures c.as_slice.ensures after.1);
      before = c.put.ensures.before ∙ c.loop-kept.invariant.before;
    }

pub returns-clause-rising : goal.returns-clause-rising
returns-clause-rising c =
    rising_if c.put-2.new.self.items (slice_set c.loop-kept.kept.items c.loop-kept.i c.args.one) c.put-2.result
    (moved_all c.args.kept.now.items c.loop-kept.kept.items c.args.one c.loop-kept.i c.loop-kept.invariant.moved c.requires.rising
    (before_place c.args.kept.now.items c.loop-kept.kept.items c.as_slice.result.now c.args.one c.loop-kept.i c.loop-kept.invariant.moved c.as_slice.ensures
    (c.is_after.ensures.not_after c.loop-kept-test.false)))
    c.put-2.ensures.ok

pub returns-clause-numbered : goal.returns-clause-numbered
returns-clause-numbered c =
    changed_numbered c.args.kept.now.items c.put-2.new.self.items (slice_set c.loop-kept.kept.items c.loop-kept.i c.args.one) c.args.one.number c.args.one.slot c.put-2.result
    (moved_numbered c.args.kept.now.items c.loop-kept.kept.items c.args.one c.loop-kept.i c.loop-kept.invariant.moved c.requires.absent)
    c.put-2.ensures.ok
