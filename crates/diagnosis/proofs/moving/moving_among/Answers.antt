use Rattle.std.proofs.Common.{◌∙◌, refl, subst, sym}
use Rattle.diagnosis.specs.Probes.{CanProbeAll}
use Rattle.diagnosis.proofs.MovingAttributes.{moving_none, next_among, next_held}
use Rattle.diagnosis.proofs.moving.moving_among.Goals as goal

pub loop-attr-init : goal.loop-attr-init
loop-attr-init g c = record { same = refl; moving = rw c.new-out.ensures.items (moving_none c.args.e.now.problem c.args.e.now.values) }

pub push_moving-requires-clause-can : goal.push_moving-requires-clause-can
push_moving-requires-clause-can g c = subst CanProbeAll (sym c.loop-attr.invariant.same) c.requires.can

pub push_moving-requires-clause-held : goal.push_moving-requires-clause-held
push_moving-requires-clause-held g c = next_held c.args.e.now c.loop-attr.e c.args.attrs.now c.loop-attr.attr-index c.loop-attr.invariant.same c.requires.held c.loop-attr-test.true

pub loop-attr-preserved : goal.loop-attr-preserved
loop-attr-preserved g c = record {
  same = c.push_moving.ensures.same ∙ c.loop-attr.invariant.same;
  moving = next_among c.args.e.now c.loop-attr.e c.args.attrs.now c.loop-attr.out.items c.push_moving.new.out.items c.loop-attr.attr-index c.loop-attr.invariant.same c.requires.rising c.loop-attr-test.true
      c.in_ok-push_moving.ensures.moving c.loop-attr.invariant.moving;
}
