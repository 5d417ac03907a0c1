use Rattle.std.proofs.Common.{◌≡◌, ◌∙◌, sym, subst, arith}
use Rattle.problem_core.specs.Kept.{AreRising}
use Rattle.scenes.proofs.Views.ByNumber.{four-held, read-all, read-next, read-rises, some-view}
use Rattle.scenes.proofs.scene.values.values_of.Goals.{in-Some+in_ok-push_values, in_default}
use Rattle.scenes.proofs.scene.values.values_of.Goals as goal

pub push_values-requires : goal.push_values-requires
push_values-requires g c =
    rw c.view_attributes.ensures (four-held c.args.tree.now.views c.args.engine.now.problem.stays c.loop-place.place _ (sym c.in-Some.ensures) c.requires)

pub loop-place-preserved : goal.loop-place-preserved
loop-place-preserved g c = record {
  within = omega (arith, c.loop-place-test.true);
  is_end = c.loop-place.invariant.is_end;
  pairs = elim c.match-at.branch [
    | in-Some+in_ok-push_values w ↦
        rw w.pairs-is
        (read-next c.args.engine.now.values c.args.tree.now.views c.loop-place.place _ c.loop-place.pairs.items _ (sym w.in-Some.ensures) c.loop-place.invariant.pairs (rw w.view_attributes.ensures at w.in_ok-push_values.ensures))
    | in_default w ↦ absurd (some-view c.args.tree.now.views c.loop-place.place (sym w.in_default.ensures) (omega (arith, c.loop-place-test.true, c.loop-place.invariant.is_end)))
  ];
}

pub of-requires : goal.of-requires
of-requires g c =
    let are : c.deref.result.now ≡ _ =
    c.deref.ensures.value ∙ read-all c.args.engine.now.values c.args.tree.now.views c.loop-place.place c.loop-place.pairs.items (omega (arith, c.loop-place-test.false, c.loop-place.invariant.is_end)) c.loop-place.invariant.pairs in
    subst AreRising (sym are) (read-rises c.args.engine.now.values c.args.tree.now.views c.len-place-end.ensures.tree.rising)
