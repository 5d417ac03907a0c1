use Rattle.std.proofs.Common.{◌≡◌, ◌++◌, ◌∷◌, [], length-append, get_or, refl, arith}
use Rattle.compile_parts.specs.declared.steps.Step.{Step}
use Rattle.constraint_compile.proofs.Lines.{parts_more, scales_more_steps}
use Rattle.constraint_compile.proofs.line.parts.steps_of.Goals as goal

pub loop-place-preserved : goal.loop-place-preserved
loop-place-preserved c =
    let step : Step = record { scale = get_or c.args.scales.now c.loop-place.place 0; part = c.part_at.result } in
    let items : c.push.new.self.items ≡ c.loop-place.steps.items ++ record { scale = get_or c.args.scales.now c.loop-place.place 0; part = c.part_at.result } ∷ [] = c.in_ok-push.ensures.items in
    rw items (record {
      long = omega (arith, length-append c.loop-place.steps.items (step ∷ []), c.loop-place.invariant.long);
      scales = scales_more_steps c.args.scales.now c.loop-place.steps.items c.loop-place.place step (omega (arith, c.loop-place-test.true, c.requires.long)) refl c.loop-place.invariant.scales;
      parts = parts_more c.args.added.now c.loop-place.steps.items c.loop-place.place c.index-added-place.result step c.loop-place-test.true c.index-added-place.is c.part_at.ensures c.loop-place.invariant.parts;
    })
