use Rattle.std.proofs.Common.{◌≡◌, ◌++◌, false, List, [], ◌∷◌, rules, ap, ◌∙◌}
use Rattle.sweep_run.specs.Slides.{rising}
use Rattle.sweep_run.specs.Told.{stretches_of}
use Rattle.sweep_run.specs.declared.stretches.Stretch as declared
use Rattle.sweep_param.proofs.Rising.{popped}
use Rattle.sweep_param.proofs.joining.put_down.Goals as goal

pub loop-stretch-preserved : goal.loop-stretch-preserved
loop-stretch-preserved c =
    let whole : c.loop-stretch.slid.stretches.items ≡ c.pop.new.self.items ++ (c.in-Some-pop.stretch ∷ []) = search rules in
    let pushed : c.push.new.self.items ≡ c.loop-stretch.out.items ++ (c.in-Some-pop.stretch ∷ []) = search rules in
    record {
      stretches = ap (λ (xs : List declared.Stretch). stretches_of xs ++ rising false (stretches_of c.pop.new.self.items)) pushed
          ∙ (popped c.loop-stretch.out.items c.loop-stretch.slid.stretches.items c.pop.new.self.items c.in-Some-pop.stretch whole ∙ c.loop-stretch.invariant.stretches);
      at = c.loop-stretch.invariant.at;
      values = c.loop-stretch.invariant.values;
    }
